-- What a field of an entry holds after the entry's changes. Assumes nothing.
use mathlib.Core.Path.{◌≡◌, refl, ◌∙◌, ap}
use mathlib.Core.Bool.{Bool, true, false, cond, ◌&&◌, ◌||◌}
use mathlib.Core.List.{List, [], ◌∷◌}
use Prim.Native.Nat.{ℕ, ◌+◌, ◌%◌, ◌^◌, ◌≤◌}
use lib.ListN.{length}
use lib.Dec.{eqb}
use borrow.Author.Tests.{eqb-true}
use Rattle.word.specs.declared.Field.{Field}
use Rattle.word.specs.Number.{bytes_in, field_in}
use Rattle.word.proofs.Test.{and_first, and_second}
use Rattle.update.proofs.Laws.{field_put, length-put}
use Rattle.format.specs.declared.SymbolIndex.{SymbolIndex}
use Rattle.refusal.specs.declared.Refusal.{Refusal}
use Rattle.refusal.specs.Order.{by_verdict}
use Rattle.refusal.specs.Refusal.{is_refused}
use Rattle.symbol.specs.declared.Tables.{Tables}
use Rattle.symbol.specs.Entry.{entry_start}
use Rattle.frame.proofs.Fields.{fields_apart, put_other}
use Rattle.mend.specs.Mend.{Mend, change_of, changes_by, put, put_all}
use Rattle.std.specs.Prelude.{Err, Ok}
use Rattle.refusal.specs.Verdict.{Verdict}

abbrev same_field : Field → Field → Bool
same_field a b = eqb a.offset b.offset && eqb (bytes_in a.width) (bytes_in b.width)

-- each mend sets the field b or one apart from it
abbrev pub placed : List Mend → Field → Bool
placed [] b = true
placed (m ∷ ms) b = (same_field m.place b || fields_apart m.place b) && placed ms b

-- what the field b holds after a mend, and after all
abbrev set_by : Mend → Field → ℕ → ℕ
set_by m b v = cond (same_field m.place b) (cond (is_refused m.verdict) (m.value % 256 ^ bytes_in b.width) v) v

abbrev pub after : List Mend → Field → ℕ → ℕ
after [] b v = v
after (m ∷ ms) b v = after ms b (set_by m b v)

set-none : (s : Bool) (x v : ℕ) → v ≡ cond s (cond false x v) v
set-none true x v = refl
set-none false x v = refl

module _ (t : Tables) (i : SymbolIndex) where
  abbrev base : ℕ
  base = entry_start t i.0

  field-set : (m : Mend) (x : Refusal) (b : Field) (bs : List ℕ) (s : Bool) → same_field m.place b ≡ s → (s || fields_apart m.place b) ≡ true
      → base + b.offset + bytes_in b.width ≤ length bs → field_in b base (put t (change_of i m x) bs) ≡ cond s (m.value % 256 ^ bytes_in b.width) (field_in b base bs)
  unfolding put
  field-set m x b bs true q h n =
      let o : m.place.offset ≡ b.offset = eqb-true m.place.offset b.offset (and_first (eqb m.place.offset b.offset) _ q) in
      let w : bytes_in m.place.width ≡ bytes_in b.width = eqb-true (bytes_in m.place.width) (bytes_in b.width) (and_second (eqb m.place.offset b.offset) _ q) in
      rw (o, w) (field_put (bytes_in b.width) (base + b.offset) m.value bs n)
  field-set m x b bs false q h n =
      put_other m.place base m.value b bs h

  pub field-after : (ms : List Mend) (b : Field) (bs : List ℕ) → placed ms b ≡ true → base + b.offset + bytes_in b.width ≤ length bs
      → field_in b base (put_all t (changes_by i ms) bs) ≡ after ms b (field_in b base bs)
  unfolding changes_by put_all
  field-after [] b bs p n = refl
  field-after (m ∷ ms) b bs p n =
      by-verdict (λ bs' n'. field-after ms b bs' (and_second (same_field m.place b || fields_apart m.place b) _ p) n') m.verdict
    where
      kept : (x : Refusal) → length (put t (change_of i m x) bs) ≡ length bs
      kept x = unfold put in length-put (bytes_in m.place.width) (base + m.place.offset) m.value bs

      by-verdict : ((bs' : List ℕ) → base + b.offset + bytes_in b.width ≤ length bs' → field_in b base (put_all t (changes_by i ms) bs') ≡ after ms b (field_in b base bs'))
          → (v : Verdict) → field_in b base (put_all t (by_verdict v (changes_by i ms) (λ x. change_of i m x ∷ changes_by i ms)) bs)
          ≡ after ms b (cond (same_field m.place b) (cond (is_refused v) (m.value % 256 ^ bytes_in b.width) (field_in b base bs)) (field_in b base bs))
      by-verdict later (Err x) =
          later (put t (change_of i m x) bs) (rw (kept x) n)
          ∙ ap (after ms b) (field-set m x b bs (same_field m.place b) refl (and_first (same_field m.place b || fields_apart m.place b) _ p) n)
      by-verdict later (Ok tt) = later bs n ∙ ap (after ms b) (set-none (same_field m.place b) (m.value % 256 ^ bytes_in b.width) (field_in b base bs))
