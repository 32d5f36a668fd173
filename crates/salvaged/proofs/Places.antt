-- Where changes stay, and each visited entry of the copy is as its own changes leave it. Assumes nothing.
use mathlib.Core.Path.{◌≡◌, sym, ◌∙◌, subst}
use mathlib.Core.List.{List, [], ◌∷◌, ◌++◌}
use Prim.Native.Nat.{ℕ, zero, suc, ◌+◌, ◌-◌, ◌*◌, ◌≤◌, ◌<◌}
use native.Mathlib.Omega.{arith}
use lib.ListN.{length, get_or}
use lib.Dec.{leb, lit≤}
use borrow.Author.Tests.{leb-false}
use Rattle.word.specs.Number.{bytes_in}
use Rattle.word.proofs.Test.{either}
use Rattle.format.specs.declared.Format.{Format}
use Rattle.format.specs.declared.Format.TheVariants.{Xcoff32, Xcoff64}
use Rattle.format.specs.declared.SymbolIndex.{SymbolIndex}
use Rattle.format.specs.Layout.{symbol_layout, symbol_length}
use Rattle.format.specs.Range.{range}
use Rattle.refusal.proofs.Order.{by-verdict}
use Rattle.symbol.specs.declared.Tables.{Tables}
use Rattle.symbol.specs.declared.SymbolEntry.{SymbolEntry}
use Rattle.symbol.specs.Entry.{entry_start, entry_of}
use Rattle.frame.specs.Same.{Same}
use Rattle.frame.specs.Change.{Local}
use Rattle.frame.proofs.Same.{same_bytes_lem, same-trans}
use Rattle.frame.proofs.Change.{put_local, none-local, both-local, wider}
use Rattle.mend.specs.Mend.{Mend, Change, mends_of, changes_by, changes_at, change_start, put, put_all, mended_entry}
use Rattle.mend.proofs.Changes.{put-append}
use Rattle.salvage.specs.Salvage.{mended_from, changes_of}

module _ (t : Tables) where
  -- each change is between two places of the file
  abbrev pub Within : ℕ → ℕ → List Change → Type 0
  Within lo hi [] = Unit {0}
  Within lo hi (c ∷ cs) = ((lo ≤ change_start t c) × (change_start t c + bytes_in c.mend.place.width ≤ hi)) × Within lo hi cs

  pub within-local : (lo n : ℕ) (cs : List Change) → Within lo (lo + n) cs → Local (range lo n) (λ bs. put_all t cs bs)
  unfolding put_all put
  within-local lo n [] h = none-local (range lo n)
  within-local lo n (c ∷ cs) h =
      both-local (λ bs. put_all t cs bs) (λ bs. put t c bs) (within-local lo n cs h.1)
      (wider (range lo n) (λ k x. let a = h.0.0 in let b = h.0.1 in let l = x.low in let u = x.high in record { low = omega arith; high = omega arith })
      (put_local (bytes_in c.mend.place.width) (change_start t c) c.mend.value))

  within_wider : (lo hi lo' hi' : ℕ) (cs : List Change) → lo' ≤ lo → hi ≤ hi' → Within lo hi cs → Within lo' hi' cs
  within_wider lo hi lo' hi' [] a b h = tt
  within_wider lo hi lo' hi' (c ∷ cs) a b h = let p = h.0.0 in let q = h.0.1 in ((omega arith, omega arith), within_wider lo hi lo' hi' cs a b h.1)

  within-append : (lo hi : ℕ) (cs ds : List Change) → Within lo hi cs → Within lo hi ds → Within lo hi (cs ++ ds)
  within-append lo hi [] ds h g = g
  within-append lo hi (c ∷ cs) ds h g = (h.0, within-append lo hi cs ds h.1 g)

-- each mend sets a field of the entry
abbrev FieldsInside : List Mend → Type 0
FieldsInside [] = Unit {0}
FieldsInside (m ∷ ms) = (m.place.offset + bytes_in m.place.width ≤ symbol_length) × FieldsInside ms

fields-inside : (f : Format) (file : List ℕ) (t : Tables) (i : SymbolIndex) (e : SymbolEntry) → FieldsInside (mends_of (symbol_layout f) file t i e)
fields-inside Xcoff32 file t i e = (lit≤ tt, (lit≤ tt, (lit≤ tt, (lit≤ tt, tt))))
fields-inside Xcoff64 file t i e = (lit≤ tt, (lit≤ tt, (lit≤ tt, (lit≤ tt, tt))))

module _ (file : List ℕ) (t : Tables) where
  changes-within : (i : SymbolIndex) (ms : List Mend) → FieldsInside ms → Within t (entry_start t i.0) (entry_start t i.0 + symbol_length) (changes_by i ms)
  unfolding changes_by
  changes-within i [] h = tt
  changes-within i (m ∷ ms) h =
      let rest = changes-within i ms h.1 in
      let k = h.0 in
      by-verdict (Within t (entry_start t i.0) (entry_start t i.0 + symbol_length)) m.verdict (λ _. rest) (λ x. ((omega arith, omega arith), rest))

  entry-within : (i : SymbolIndex) → Within t (entry_start t i.0) (entry_start t i.0 + symbol_length) (changes_at file t i)
  unfolding changes_at
  entry-within i = changes-within i (mends_of (symbol_layout t.format) file t i (entry_of file t i)) (fields-inside t.format file t i (entry_of file t i))

  pub entry-local : (i : SymbolIndex) → Local (range (entry_start t i.0) symbol_length) (λ bs. put_all t (changes_at file t i) bs)
  entry-local i = within-local t (entry_start t i.0) symbol_length (changes_at file t i) (entry-within i)

  -- ---- entries in ascending order

  abbrev pub Ascending : ℕ → List SymbolIndex → Type 0
  Ascending lo [] = Unit {0}
  Ascending lo (i ∷ is) = ((lo ≤ i.0) × (i.0 < t.count)) × Ascending (suc i.0) is

  ascending-from : (a b : ℕ) (is : List SymbolIndex) → b ≤ a → Ascending a is → Ascending b is
  ascending-from a b [] h g = tt
  ascending-from a b (i ∷ is) h g = let p = g.0.0 in ((omega arith, g.0.1), g.1)

  pub visited-ascends : (steps i : ℕ) → Ascending i (mended_from file t steps i)
  unfolding mended_from
  visited-ascends zero i = tt
  visited-ascends (suc steps) i =
      let next : ℕ = i + 1 + (mended_entry file t (record { 0 = i })).numaux in
      let rest = visited-ascends steps next in
      either (Ascending i) (leb t.count i) (λ _. tt)
      (λ q. ((omega arith, leb-false t.count i q), ascending-from next (suc i) (mended_from file t steps next) (omega arith) rest))

  -- their changes stay in the table, at or behind the first
  changes-from : (lo : ℕ) (is : List SymbolIndex) → Ascending lo is → Within t (entry_start t lo) (entry_start t t.count) (changes_of file t is)
  unfolding changes_of
  changes-from lo [] h = tt
  changes-from lo (i ∷ is) h =
      let a = h.0.0 in
      let b = h.0.1 in
      within-append t (entry_start t lo) (entry_start t t.count) (changes_at file t i) (changes_of file t is)
      (within_wider t (entry_start t i.0) (entry_start t i.0 + symbol_length) (entry_start t lo) (entry_start t t.count) (changes_at file t i) (omega arith) (omega arith) (entry-within i))
      (within_wider t (entry_start t (suc i.0)) (entry_start t t.count) (entry_start t lo) (entry_start t t.count) (changes_of file t is) (omega arith) (omega arith) (changes-from (suc i.0) is h.1))

  pub changes-local : (lo : ℕ) (is : List SymbolIndex) → lo ≤ t.count → Ascending lo is → Local (range (entry_start t lo) ((t.count - lo) * symbol_length)) (λ bs. put_all t (changes_of file t is) bs)
  changes-local lo is k h =
      within-local t (entry_start t lo) ((t.count - lo) * symbol_length) (changes_of file t is)
      (let e : entry_start t t.count ≡ entry_start t lo + (t.count - lo) * symbol_length = omega arith in
      subst (λ (n : ℕ). Within t (entry_start t lo) n (changes_of file t is)) e (changes-from lo is h))

  -- ---- each entry is as its own changes leave it

  abbrev pub Mended : List ℕ → List SymbolIndex → Type 0
  Mended ys [] = Unit {0}
  Mended ys (i ∷ is) = Same (entry_start t i.0) symbol_length ys (put_all t (changes_at file t i) file) × Mended ys is

  -- from the entry lo on, bs is the file
  abbrev pub FileFrom : ℕ → List ℕ → Type 0
  FileFrom lo bs = (k : ℕ) → entry_start t lo ≤ k → get_or bs k 0 ≡ get_or file k 0

  pub entries-mended : (lo : ℕ) (is : List SymbolIndex) → Ascending lo is → (bs : List ℕ) → length bs ≡ length file → FileFrom lo bs → Mended (put_all t (changes_of file t is) bs) is
  unfolding changes_of
  entries-mended lo [] h bs l e = tt
  entries-mended lo (i ∷ is) h bs l e =
      subst (λ (ys : List ℕ). Mended ys (i ∷ is)) (sym (put-append t (changes_at file t i) (changes_of file t is) bs))
      (same-trans later own, entries-mended (suc i.0) is h.1 next long from)
    where
      next : List ℕ
      next = put_all t (changes_at file t i) bs

      long : length next ≡ length file
      long = (entry-local i).keeps bs ∙ l

      from : FileFrom (suc i.0) next
      from k a = (entry-local i).outside bs k (λ x. let u = x.high in absurd (omega arith)) ∙ e k (let b = h.0.0 in omega arith)

      later : Same (entry_start t i.0) symbol_length (put_all t (changes_of file t is) next) next
      later =
          let d = changes-local (suc i.0) is (let b = h.0.1 in omega arith) h.1 in
          same_bytes_lem (entry_start t i.0) symbol_length (put_all t (changes_of file t is) next) next (d.keeps next) (λ k a b. d.outside next k (λ x. let u = x.low in absurd (omega arith)))

      own : Same (entry_start t i.0) symbol_length next (put_all t (changes_at file t i) file)
      own =
          same_bytes_lem (entry_start t i.0) symbol_length next (put_all t (changes_at file t i) file) (long ∙ sym ((entry-local i).keeps file))
          (λ k a b. (entry-local i).bytewise bs file k l (e k (let c = h.0.0 in omega arith)))
