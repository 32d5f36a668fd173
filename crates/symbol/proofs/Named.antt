-- What a symbol's refusals name is there: the entry itself. Assumes nothing.
use Prim.Native.Nat.{ℕ, ◌+◌, ◌-◌, ◌<◌}
use mathlib.Core.Path.{refl}
use mathlib.Core.Bool.{not, ◌||◌}
use mathlib.Core.List.{List}
use borrow.Author.Tests.{leb-false}
use lib.Dec.{eqb, ltb, leb}
use lib.ListN.{drop}
use Rattle.word.specs.Test.{past}
use Rattle.word.specs.Zero.{first_zero}
use Rattle.word.proofs.Test.{either}
use Rattle.format.specs.declared.FileRange.{FileRange}
use Rattle.format.specs.declared.NameField.{NameField}
use Rattle.format.specs.declared.NameField.TheVariants.{Short, Offset}
use Rattle.format.specs.declared.SymbolIndex.{SymbolIndex}
use Rattle.format.specs.Range.{bytes_of}
use Rattle.refusal.specs.declared.IndexItem.TheVariants.{NoSymbol}
use Rattle.refusal.specs.declared.Refusal.{Refusal}
use Rattle.refusal.specs.declared.Refusal.TheVariants.{Index, Aux, Name, Scnum, Visibility}
use Rattle.refusal.specs.Order.{by_verdict, first_refusal}
use Rattle.refusal.proofs.Causes.{Causes, cause-test, cause-then}
use Rattle.offset.specs.Named.{NamesSymbol, Named}
use Rattle.offset.specs.Offset.{starts_as, symbol_place}
use Rattle.offset.proofs.Named.{plain-named, named_by}
use Rattle.file_header.specs.Header.{header_at}
use Rattle.header.proofs.Named.{Opens, opens, symbol-there}
use Rattle.debug_section.specs.Debug.{has_string}
use Rattle.visibility.specs.Visibility.{is_unknown}
use Rattle.symbol.specs.declared.SymbolEntry.{SymbolEntry}
use Rattle.symbol.specs.declared.Tables.{Tables}
use Rattle.symbol.specs.Entry.{OpenTables, entry_of}
use Rattle.symbol.specs.Name.{string_room, debug_room, is_debug_class, room_by}
use Rattle.symbol.specs.Symbol.{is_section, index_check, aux_check, scnum_check, verdict_of, name_check, visibility_check, symbol_checks, symbol_check, symbol_of, symbol_in}
use Rattle.std.specs.Prelude.{Err, Ok, Result}
use Rattle.symbol.specs.declared.Symbol.{Symbol}
use Rattle.refusal.specs.Verdict.{Verdict}

module _ (file : List ℕ) (t : Tables) (o : OpenTables file t) (i : SymbolIndex) where
  abbrev P : Refusal → Type 0
  P = Named file

  abbrev w : Opens file
  w = opens file o.accepted

  -- an entry that the table has
  pub entry_place_lem : i.0 < t.count → NamesSymbol file (header_at w.format file) i.0 (symbol_place (starts_as w.format file) i.0)
  entry_place_lem p = symbol-there file w i.0 (rw o.tables at p)

  module _ (n : NamesSymbol file (header_at w.format file) i.0 (symbol_place (starts_as w.format file) i.0)) where
    name-named : P (Name i)
    name-named = named_by file w.format w.headed (Name i) n

    string-named : (strings : FileRange) (a : ℕ) → Causes P (verdict_of (string_room file strings a i))
    unfolding string_room
    string-named strings a =
        either (λ r. Causes P (verdict_of r)) (ltb a 4 || leb strings.length a) (λ _. name-named)
        (λ _. either (λ r. Causes P (verdict_of r)) (leb (strings.length - a) (first_zero (drop a (bytes_of file strings)))) (λ _. name-named) (λ _. tt))

    debug-named : (a : ℕ) → Causes P (verdict_of (debug_room file t a i))
    unfolding debug_room
    debug-named a = either (λ r. Causes P (verdict_of r)) (has_string t.format file t.debug a) (λ _. tt) (λ _. name-named)

    room-named : (sclass : ℕ) (name : NameField) → Causes P (verdict_of (room_by file t i sclass name))
    unfolding room_by
    room-named sclass Short = tt
    room-named sclass (Offset a) =
        either (λ r. Causes P (verdict_of r)) (eqb a 0) (λ _. tt)
        (λ _. either (λ r. Causes P (verdict_of r)) (is_debug_class sclass) (λ _. debug-named a) (λ _. string-named t.strings a))

    checks-named : (e : SymbolEntry) → Causes P (first_refusal (symbol_checks file t i e))
    unfolding aux_check scnum_check name_check visibility_check
    checks-named e =
        let h = w.headed in
        let f = w.format in
        cause-test P (past (i.0 + 1) e.numaux t.count) (Aux i) _ (λ _. named_by file f h (Aux i) n)
        (λ _. cause-test P (not (is_section t.nscns e.scnum)) (Scnum i) _ (λ _. named_by file f h (Scnum i) n)
        (λ _. cause-then P (verdict_of (room_by file t i e.sclass e.name)) _ (room-named e.sclass e.name)
        (λ _. cause-test P (is_unknown t.version2 e.sclass e.ntype) (Visibility i) (Ok tt) (λ _. named_by file f h (Visibility i) n) (λ _. tt))))

  -- request 4: of each of a symbol's refusals, whatever the entry
  pub symbol-named : (e : SymbolEntry) → Causes P (symbol_check file t i e)
  unfolding symbol_check index_check
  symbol-named e =
      cause-test P (leb t.count i.0) (Index (NoSymbol i)) _ (λ _. plain-named file (Index (NoSymbol i)) (λ s. refl) (λ _ z. z))
      (λ l. checks-named (entry_place_lem (leb-false t.count i.0 l)) e)

-- what holds of the refusal of a symbol's answer
abbrev pub SymbolCauses : (Refusal → Type 0) → Result Symbol Refusal → Type 0
SymbolCauses P (Ok s) = Unit {0}
SymbolCauses P (Err x) = P x

module _ (file : List ℕ) where
  by-check : (v : Verdict) (a : Result Symbol Refusal) → SymbolCauses (Named file) a → Causes (Named file) v → SymbolCauses (Named file) (by_verdict v a Err)
  by-check (Ok tt) a k c = k
  by-check (Err x) a k c = c

  -- in the tables of an opened file
  pub symbol-in-named : (t : Tables) → OpenTables file t → (i : SymbolIndex) → SymbolCauses (Named file) (symbol_in file t i)
  unfolding symbol_in
  symbol-in-named t o i = by-check (symbol_check file t i (entry_of file t i)) (Ok (symbol_of t (entry_of file t i))) tt (symbol-named file t o i (entry_of file t i))
