-- Laws of the tables of a module: its loader symbols and its relocation entries. Assumes nothing.
use mathlib.Core.Path.{◌≡◌, refl, sym, ◌∙◌, ap}
use mathlib.Core.List.{List, [], ◌∷◌}
use Prim.Native.Nat.{ℕ, zero, suc, ◌+◌, ◌-◌, ◌*◌, ◌/◌, ◌%◌, ◌≤◌, ◌<◌}
use native.Mathlib.Nat.{add-suc, suc-add, sub-zero}
use native.Mathlib.Numerals.{add-one}
use native.Mathlib.Omega.{arith}
use lib.Dec.{eqb}
use lib.ListN.{length, get_or}
use borrow.Author.Tests.{eq-eqb, ne_eqb}
use Rattle.word.specs.declared.Field.{Field}
use Rattle.word.specs.declared.Width.{Width}
use Rattle.word.specs.declared.Width.TheVariants.{One, Four}
use Rattle.word.specs.Number.{bytes_in, field, field_in}
use Rattle.word.proofs.Test.{either}
use Rattle.format.specs.declared.FileOffset.{FileOffset}
use Rattle.format.specs.declared.Format.{Format}
use Rattle.format.specs.declared.SectionNumber.{SectionNumber}
use Rattle.format.specs.declared.SymbolLayout.{SymbolLayout}
use Rattle.format.specs.Limit.{file_limit}
use Rattle.format.specs.Layout.{symbol_layout, loader_symbol_length}
use Rattle.format.proofs.Layouts.{FieldInside, SymbolInside, symbol-inside}
use Rattle.loader_symbol.specs.declared.LoaderEntry.{LoaderEntry}
use Rattle.loader_symbol.specs.Symbol.{entry_start, entry_at, is_imported}
use Rattle.loadable.specs.declared.Loadable.{Loadable}
use Rattle.loadable.specs.Valid.{Valid}
use Rattle.history.specs.declared.Followed.{Followed}
use Rattle.history.specs.declared.Followed.TheVariants as followed
use Rattle.history.specs.Plan.{followed_by}
use Rattle.plan.specs.Relocatable.{followed_of, followed_in, followed_at, symbols_from, relocation_at, relocations_from, relocatable_of}

module _ (file : List ℕ) (l : Loadable) where
  -- a table of n symbols has length n
  pub length_symbols : (k n : ℕ) → length (symbols_from file l k n) ≡ n
  unfolding symbols_from
  length_symbols k zero = refl
  length_symbols k (suc n) = ap suc (length_symbols (suc k) n)

  -- symbol j of those from place k has place k + j
  symbol-from : (k n j : ℕ) → j < n → get_or (symbols_from file l k n) j followed.Nothing ≡ followed_at file l (k + j)
  unfolding symbols_from
  symbol-from k zero j h = absurd (omega arith)
  symbol-from k (suc n) zero h = ap (followed_at file l) (let e : k ≡ k + 0 = omega arith in e)
  symbol-from k (suc n) (suc j) h =
      symbol-from (suc k) n j (omega arith) ∙ ap (followed_at file l) (suc-add k j ∙ sym (add-suc k j))

  -- a symbol of the table is what its entry says
  pub symbol-at : (n k : ℕ) → k < n → get_or (symbols_from file l 0 n) k followed.Nothing ≡ followed_at file l k
  symbol-at n k h = symbol-from 0 n k h ∙ ap (followed_at file l) (let e : 0 + k ≡ k = omega arith in e)

  -- index 3 is the first loader symbol, so index 3 + k is that with place k
  pub followed-known : (k : ℕ) → k < l.tables.nsyms → followed_by (relocatable_of file l) (suc (suc (suc k))) ≡ followed_at file l k
  unfolding followed_by relocatable_of
  followed-known k h = symbol-at l.tables.nsyms k h

  -- a loop over the relocation entries starts with all of them
  pub entries-start : (n : ℕ) → relocations_from file l 0 n ≡ relocations_from file l 0 (n - 0)
  entries-start n = rw (sub-zero n) refl

  -- a turn takes entry i
  pub entries-turn : (n i : ℕ) → i < n → relocations_from file l i (n - i) ≡ (relocation_at file l i ∷ relocations_from file l (i + 1) (n - (i + 1)))
  unfolding relocations_from
  entries-turn n i h =
      let e : n - i ≡ suc (n - (i + 1)) = omega arith in
      rw (e, add-one i) refl

  -- and at its end none is left
  pub entries-end : (n i : ℕ) → n ≤ i → relocations_from file l i (n - i) ≡ []
  unfolding relocations_from
  entries-end n i h =
      let e : n - i ≡ 0 = omega arith in
      rw e refl

-- ---- a loader symbol read field by field

-- an entry of a module's table is in the file
pub symbol-in : (file : List ℕ) (l : Loadable) (k : ℕ) → Valid file l → k < l.tables.nsyms
    → (l.tables.symbols.0 + k * loader_symbol_length + loader_symbol_length ≤ length file) × (length file ≤ file_limit)
symbol-in file l k v h = (omega (arith, v.loader.tables.symbols, h), v.entries.small)

module _ (file : List ℕ) (f : Format) (start : FileOffset) (text : SectionNumber) (k : ℕ) where
  module _ (in-file : (start.0 + k * loader_symbol_length + loader_symbol_length ≤ length file) × (length file ≤ file_limit)) where
    -- a field of its entry's 24 bytes is in the file
    pub entry-field : {o : ℕ} {w : Width} → {a : Field} → a ≡ field o w → o + bytes_in w ≤ loader_symbol_length
        → FieldInside a (start.0 + k * loader_symbol_length) (length file)
    entry-field {o} {w} e h = rw e (omega (arith, in-file.0))

    -- so are the fields that a symbol table entry has at the same places
    pub entry-fields : {s : SymbolLayout} → s ≡ symbol_layout f → SymbolInside s (start.0 + k * loader_symbol_length) (length file)
    entry-fields e = symbol-inside f (start.0 + k * loader_symbol_length) (length file) e (omega (arith, in-file.0))

  -- what it follows, by the type t that is read, and then by the file id i or the section number n
  module _ {a : Field} {t : ℕ} (ea : a ≡ field 14 One) (et : t ≡ field_in a (start.0 + k * loader_symbol_length) file) where
    module _ (imported : t / 64 % 2 ≡ 1) {b : Field} {i : ℕ} (eb : b ≡ field 16 Four) (ei : i ≡ field_in b (start.0 + k * loader_symbol_length) file) where
      -- a deferred import follows nothing
      pub follows_nothing : i ≡ 0 → followed.Nothing ≡ followed_in file f start text k
      unfolding followed_in followed_of entry_at
      follows_nothing z = rw (← rw ea at et, eq-eqb (t / 64 % 2) 1 imported, ← rw eb at ei, eq-eqb i 0 z)

      -- any other import follows its own place in the list
      pub follows-import : (i ≡ 0 → ⊥) → {s : SymbolLayout} {v : ℕ} → s ≡ symbol_layout f → v ≡ field_in s.value (start.0 + k * loader_symbol_length) file
          → followed.Import k v ≡ followed_in file f start text k
      unfolding followed_in followed_of entry_at
      follows-import z es ev = rw (← rw ea at et, eq-eqb (t / 64 % 2) 1 imported, ← rw eb at ei, ne_eqb i 0 z, ← rw es at ev)

    module _ (own : t / 64 % 2 ≡ 1 → ⊥) {s : SymbolLayout} {n : ℕ} (es : s ≡ symbol_layout f) (en : n ≡ field_in s.scnum (start.0 + k * loader_symbol_length) file) where
      -- a symbol of the text section follows text
      pub follows-text : n ≡ text.0 → followed.Text ≡ followed_in file f start text k
      unfolding followed_in followed_of entry_at
      follows-text z = rw (← rw ea at et, ne_eqb (t / 64 % 2) 1 own, ← rw es at en, eq-eqb n text.0 z)

      -- a symbol of any other section follows data
      pub follows-data : (n ≡ text.0 → ⊥) → followed.Data ≡ followed_in file f start text k
      unfolding followed_in followed_of entry_at
      follows-data z = rw (← rw ea at et, ne_eqb (t / 64 % 2) 1 own, ← rw es at en, ne_eqb n text.0 z)

-- ---- an import has its own place in the list

-- k is the symbol's place in the list, if it is an import
abbrev pub OwnPlace : ℕ → Followed → Type 0
OwnPlace k (followed.Import j v) = j ≡ k
OwnPlace k followed.Text = Unit {0}
OwnPlace k followed.Data = Unit {0}
OwnPlace k followed.Nothing = Unit {0}

-- an import in an entry with place k has that place in the list
own-place : (text : SectionNumber) (k : ℕ) (e : LoaderEntry) → OwnPlace k (followed_of text k e)
unfolding followed_of
own-place text k e =
    either (OwnPlace k) (is_imported e.smtype)
    (λ _. either (OwnPlace k) (eqb e.ifile 0) (λ _. tt) (λ _. refl))
    (λ _. either (OwnPlace k) (eqb e.scnum text.0) (λ _. tt) (λ _. tt))

-- the same of the entry in the file
pub own-place-at : (file : List ℕ) (l : Loadable) (k : ℕ) → OwnPlace k (followed_at file l k)
unfolding followed_in
own-place-at file l k = own-place l.layout.parts.text.number k (entry_at l.layout.format (entry_start l.tables k) file)
