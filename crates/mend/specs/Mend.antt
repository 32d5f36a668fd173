-- What is set in an entry for each check that refuses it.
use Rattle.std.specs.Prelude.{ℕ, ◌+◌, ◌-◌, ◌*◌, List, [], ◌∷◌}
use Rattle.word.specs.declared.Field.{Field}
use Rattle.word.specs.Number.{bytes_in}
use Rattle.format.specs.declared.SymbolIndex.{SymbolIndex}
use Rattle.format.specs.declared.SymbolLayout.{SymbolLayout}
use Rattle.format.specs.Layout.{symbol_layout}
use Rattle.refusal.specs.declared.Refusal.{Refusal}
use Rattle.refusal.specs.Order.{by_verdict}
use Rattle.update.specs.Update.{put_field}
use Rattle.visibility.specs.Visibility.{visibility_bits}
use Rattle.symbol.specs.declared.Tables.{Tables}
use Rattle.symbol.specs.declared.SymbolEntry.{SymbolEntry}
use Rattle.symbol.specs.Entry.{entry_start, entry_of}
use Rattle.symbol.specs.Symbol.{aux_check, scnum_check, name_check, visibility_check}
use Rattle.refusal.specs.Verdict.{Verdict}

-- a check's verdict, and where it refuses: the field that is set, which of its bits, from `low` up to and without `high`, and the number that the field then holds
pub record Mend : Type 0 where
  pub verdict : Verdict
  pub place : Field
  pub low : ℕ
  pub high : ℕ
  pub value : ℕ

-- all bits of a field
abbrev pub whole : Verdict → Field → ℕ → Mend
whole v f n = record { verdict = v; place = f; low = 0; high = 8 * bytes_in f.width; value = n }

-- how many auxiliaries are left for the entry at index i
abbrev pub aux_left : Tables → SymbolIndex → ℕ
aux_left t i = t.count - (i.0 + 1)

-- a type with visibility none: bits 7000 hex are 0
unfoldable pub without_visibility : ℕ → ℕ
without_visibility ntype = ntype - visibility_bits ntype * 0x1000

-- the checks of the entry e at index i, in their order. AUX: auxiliaries cut to what is left. SECTION: section 0. NAME: the empty name, by offset 0; in XCOFF32 that is the second word, and the first is 0 already. VISIBILITY: none
abbrev pub mends_of : SymbolLayout → List ℕ → Tables → SymbolIndex → SymbolEntry → List Mend
mends_of l file t i e =
    whole (aux_check t.count i e) l.numaux (aux_left t i)
    ∷ whole (scnum_check t.nscns i e) l.scnum 0
    ∷ whole (name_check file t i e) l.offset 0
    ∷ record { verdict = visibility_check t.version2 i e; place = l.ntype; low = 12; high = 15; value = without_visibility e.ntype }
    ∷ []

-- ---- changes

-- a mend done to the entry at an index, for a refusal
pub record Change : Type 0 where
  pub index : SymbolIndex
  pub refusal : Refusal
  pub mend : Mend

abbrev pub change_of : SymbolIndex → Mend → Refusal → Change
change_of i m x = record { index = i; refusal = x; mend = m }

-- one for each check that refuses; an entry may need several
unfoldable pub changes_by : SymbolIndex → List Mend → List Change
changes_by i [] = []
changes_by i (m ∷ ms) = by_verdict m.verdict (changes_by i ms) (λ x. change_of i m x ∷ changes_by i ms)

-- of the entry at index i of an opened file
unfoldable pub changes_at : List ℕ → Tables → SymbolIndex → List Change
changes_at file t i = changes_by i (mends_of (symbol_layout t.format) file t i (entry_of file t i))

-- ---- changes done to bytes

abbrev pub change_start : Tables → Change → ℕ
change_start t c = entry_start t c.index.0 + c.mend.place.offset

unfoldable pub put : Tables → Change → List ℕ → List ℕ
put t c bs = put_field (bytes_in c.mend.place.width) (change_start t c) c.mend.value bs

unfoldable pub put_all : Tables → List Change → List ℕ → List ℕ
put_all t [] bs = bs
put_all t (c ∷ cs) bs = put_all t cs (put t c bs)

-- the entry at index i as mended
unfoldable pub mended_entry : List ℕ → Tables → SymbolIndex → SymbolEntry
mended_entry file t i = entry_of (put_all t (changes_at file t i) file) t i
