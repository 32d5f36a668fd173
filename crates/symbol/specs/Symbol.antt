-- A symbol read at an index: INDEX, AUX, SECTION, NAME, VISIBILITY.
use Rattle.std.specs.Prelude.{ℕ, zero, suc, ◌+◌, Bool, not, ◌&&◌, List, [], ◌∷◌, leb, ℤ, pos, negsuc, Err, Ok, Result}
use Rattle.word.specs.Signed.{signed16, lebℤ}
use Rattle.word.specs.Test.{past}
use Rattle.format.specs.declared.SymbolIndex.{SymbolIndex}
use Rattle.refusal.specs.declared.Refusal.TheVariants.{Index, Aux, Scnum, Visibility}
use Rattle.refusal.specs.declared.IndexItem.TheVariants.{NoSymbol}
use Rattle.refusal.specs.Order.{◌or_else◌, refuse_if, first_refusal, by_verdict}
use Rattle.visibility.specs.Visibility.{is_unknown, visibility_of}
use Rattle.symbol.specs.declared.Tables.{Tables}
use Rattle.symbol.specs.declared.SymbolEntry.{SymbolEntry}
use Rattle.symbol.specs.declared.SymbolSection.{SymbolSection}
use Rattle.symbol.specs.declared.SymbolSection.TheVariants.{Debug, Absolute, Undefined, In}
use Rattle.symbol.specs.declared.Symbol.{Symbol}
use Rattle.symbol.specs.Entry.{entry_of}
use Rattle.symbol.specs.Name.{room_in}
use Rattle.refusal.specs.declared.Refusal.{Refusal}
use Rattle.format.specs.declared.FileRange.{FileRange}
use Rattle.refusal.specs.Verdict.{Verdict}

-- ---- the section that `n_scnum` names, by its signed number

abbrev pub scnum_of : SymbolSection → ℤ
scnum_of Debug = negsuc 1
scnum_of Absolute = negsuc 0
scnum_of Undefined = pos 0
scnum_of (In n) = pos n.0

-- and back: of what is below -2, which SECTION refuses, nothing is said
abbrev pub section_of : ℤ → SymbolSection
section_of (pos zero) = Undefined
section_of (pos (suc n)) = In (record { 0 = suc n })
section_of (negsuc zero) = Absolute
section_of (negsuc (suc n)) = Debug

unfoldable pub section_in : ℕ → SymbolSection
section_in scnum = section_of (signed16 scnum)

-- -2 ≤ `n_scnum` ≤ `f_nscns`
unfoldable pub is_section : ℕ → ℕ → Bool
is_section nscns scnum = lebℤ (scnum_of Debug) (signed16 scnum) && lebℤ (signed16 scnum) (pos nscns)

-- ---- the checks

-- INDEX: the table has no such entry
unfoldable pub index_check : ℕ → SymbolIndex → Verdict
index_check count i = refuse_if (leb count i.0) (Index (NoSymbol i))

-- AUX: the entry's auxiliaries pass the table's end
unfoldable pub aux_check : ℕ → SymbolIndex → SymbolEntry → Verdict
aux_check count i e = refuse_if (past (i.0 + 1) e.numaux count) (Aux i)

-- SECTION
unfoldable pub scnum_check : ℕ → SymbolIndex → SymbolEntry → Verdict
scnum_check nscns i e = refuse_if (not (is_section nscns e.scnum)) (Scnum i)

-- the verdict that an answer with a part of the file stands for
abbrev pub verdict_of : Result FileRange Refusal → Verdict
verdict_of (Ok r) = Ok tt
verdict_of (Err x) = Err x

-- NAME: the name lies nowhere
unfoldable pub name_check : List ℕ → Tables → SymbolIndex → SymbolEntry → Verdict
name_check file t i e = verdict_of (room_in file t i e)

-- VISIBILITY
unfoldable pub visibility_check : Bool → SymbolIndex → SymbolEntry → Verdict
visibility_check version2 i e = refuse_if (is_unknown version2 e.sclass e.ntype) (Visibility i)

-- the checks of the entry e at index i, in their order
abbrev pub symbol_checks : List ℕ → Tables → SymbolIndex → SymbolEntry → List Verdict
symbol_checks file t i e = aux_check t.count i e ∷ scnum_check t.nscns i e ∷ name_check file t i e ∷ visibility_check t.version2 i e ∷ []

-- a read takes the first refusal; an entry that is not there has no record, so INDEX comes before them
unfoldable pub symbol_check : List ℕ → Tables → SymbolIndex → SymbolEntry → Verdict
symbol_check file t i e = index_check t.count i or_else first_refusal (symbol_checks file t i e)

-- ---- the symbol

-- the whole type, and the visibility beside it
unfoldable pub symbol_of : Tables → SymbolEntry → Symbol
symbol_of t e =
    record {
      value = e.value;
      section = section_in e.scnum;
      ntype = e.ntype;
      sclass = e.sclass;
      numaux = e.numaux;
      visibility = visibility_of t.version2 e.sclass e.ntype;
    }

unfoldable pub symbol_in : List ℕ → Tables → SymbolIndex → Result Symbol Refusal
symbol_in file t i = by_verdict (symbol_check file t i (entry_of file t i)) (Ok (symbol_of t (entry_of file t i))) Err
