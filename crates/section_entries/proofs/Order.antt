-- The order of an entry's own checks and the meeting of fields. Assumes nothing.
use mathlib.Core.Path.{◌≡◌, refl, sym, ◌∙◌, ap, subst}
use mathlib.Core.Bool.{Bool, true, false}
use mathlib.Core.List.{List}
use Prim.Native.Nat.{ℕ, zero, suc, ◌-◌, ◌≤◌, ◌<◌}
use borrow.Author.Tests.{ltb-true, ltb-false}
use lib.Dec.{ltb}
use native.Mathlib.Numerals.{add-one}
use native.Mathlib.Omega.{arith}
use Rattle.word.proofs.Test.{either}
use Rattle.refusal.specs.declared.Refusal.TheVariants.{SectionOverlap}
use Rattle.refusal.specs.Refusal.{is_refused}
use Rattle.refusal.specs.Order.{◌or_else◌, refuse_if, first_of}
use Rattle.refusal.proofs.Order.{go_on, stop, first-start, first-turn, first-stop, first-end}
use Rattle.symbol.specs.declared.Tables.{Tables}
use Rattle.section_relocation.specs.declared.ObjectSection.{ObjectSection}
use Rattle.section_relocation.specs.Entry.{field_in, name_of}
use Rattle.object_entry.specs.Entry.{own_at}
use Rattle.section_overlap.specs.Overlap.{meets, First}
use Rattle.section_overlap.proofs.Rule.{first-before, first-here}
use Rattle.section_entries.specs.Entries.{entry_check, FirstRefused, verdict_at}
use Rattle.std.specs.Prelude.{Err, Ok}
use Rattle.refusal.specs.Verdict.{Verdict}

module _ (check : ℕ → Verdict) where
  -- past checks that do not refuse
  first_past : (n x : ℕ) → x ≤ n → ((i : ℕ) → i < x → is_refused (check i) ≡ false) → first_of check 0 n ≡ first_of check x (n - x)
  first_past n zero h none = first-start check n
  first_past n (suc x) h none =
      subst (λ (y : ℕ). first_of check 0 n ≡ first_of check y (n - y)) (add-one x)
      (first_past n x (omega arith) (λ i l. none i (omega arith)) ∙ first-turn check n x (omega arith) (none x (omega arith)))

  -- the check x is the first that refuses
  pub first-is : (n x : ℕ) → x < n → ((i : ℕ) → i < x → is_refused (check i) ≡ false) → is_refused (check x) ≡ true → first_of check 0 n ≡ check x
  first-is n x h none e = first_past n x (omega arith) none ∙ first-stop check n x h e

  pub first-none : (n : ℕ) → ((i : ℕ) → i < n → is_refused (check i) ≡ false) → first_of check 0 n ≡ Ok tt
  first-none n none = first_past n n (omega arith) none ∙ first-end check n n (omega arith)

-- an entry that neither check refuses
passes : (s : ObjectSection) (v : Verdict) (t : Bool) (i : ℕ) → is_refused v ≡ false → t ≡ false → is_refused (v or_else refuse_if t (SectionOverlap (name_of s i))) ≡ false
passes s v t i e q = rw (go_on v (refuse_if t (SectionOverlap (name_of s i))) e, q) refl

module _ (file : List ℕ) (t : Tables) (s : ObjectSection) {n k x : ℕ} (own : FirstRefused (own_at file t s) n k) (over : First (field_in file t.format s) k x) where
  fine : (i : ℕ) → i < x → is_refused (entry_check file t s i) ≡ false
  unfolding entry_check
  fine i l = passes s (own_at file t s i) (meets (field_in file t.format s) i) i (own.before i (omega (arith, over.within))) (first-before (field_in file t.format s) k x over i l)

  -- fields meet before any entry is refused by itself
  pub overlap-first : x < k → Err (SectionOverlap (name_of s x)) ≡ first_of (entry_check file t s) 0 n
  overlap-first h = sym (first-is (entry_check file t s) n x (omega (arith, own.within)) fine (ap is_refused here) ∙ here)
    where
      here : entry_check file t s x ≡ Err (SectionOverlap (name_of s x))
      here = unfold entry_check in rw (go_on (own_at file t s x) (refuse_if (meets (field_in file t.format s) x) (SectionOverlap (name_of s x))) (own.before x h), first-here (field_in file t.format s) k x over h) refl

  -- an entry is refused by itself, and no fields meet before it
  own_first : k ≤ x → k < n → own_at file t s k ≡ first_of (entry_check file t s) 0 n
  own_first h l = sym (first-is (entry_check file t s) n k l (λ i u. fine i (omega arith)) (ap is_refused here ∙ own.here l) ∙ here)
    where
      here : entry_check file t s k ≡ own_at file t s k
      here = unfold entry_check in stop (own_at file t s k) (refuse_if (meets (field_in file t.format s) k) (SectionOverlap (name_of s k))) (own.here l)

  none_first : k ≤ x → n ≤ k → (Ok tt) ≡ first_of (entry_check file t s) 0 n
  none_first h l = sym (first-none (entry_check file t s) n (λ i u. fine i (omega arith)))

  -- no fields meet before the first entry that is refused by itself, if there is one
  pub rest-first : k ≤ x → verdict_at (own_at file t s) n k ≡ first_of (entry_check file t s) 0 n
  rest-first h =
      either (λ (v : Verdict). v ≡ first_of (entry_check file t s) 0 n) (ltb k n)
      (λ e. own_first h (ltb-true k n e)) (λ e. none_first h (ltb-false k n e))
