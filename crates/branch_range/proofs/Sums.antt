-- The sum on a word, by number and by list, and how large it can be. Assumes nothing.
use mathlib.Core.Path.{◌≡◌, refl, sym, ◌∙◌, ap}
use mathlib.Core.Bool.{Bool, true, false, cond}
use mathlib.Core.List.{List}
use Prim.Native.Nat.{ℕ, zero, suc, ◌+◌, ◌*◌, ◌^◌, ◌≤◌}
use native.Mathlib.Omega.{arith}
use lib.IntN.{ℤ, pos, nat_abs, ◌+ℤ◌, +ℤ_assoc, +ℤ_comm}
use Rattle.book.specs.Machine.{Shifts}
use Rattle.branch.specs.Branch.{branch_value, in_range, wide, wide_in_range}
use Rattle.branch.proofs.Wide.{wide-range, abs-add, abs-value}
use Rattle.object_history.specs.declared.ObjectEntry.{ObjectEntry}
use Rattle.object_history.specs.Entry.{amount_of}
use Rattle.object_history.specs.Range.{is_on, amounts_on}
use Rattle.object_history.proofs.Wide.{abs-amount}
use Rattle.symbol.specs.declared.Tables.{Tables}
use Rattle.section_relocation.specs.declared.ObjectSection.{ObjectSection}
use Rattle.object_entry.specs.Entry.{object_entry}
use Rattle.object_plan.specs.Object.{entries_from}
use Rattle.branch_range.specs.Range.{sum_on}
use Rattle.branch_range.specs.Cells.{Small}

-- ---- by list

change-places : (a b c : ℤ) → a +ℤ (b +ℤ c) ≡ b +ℤ (a +ℤ c)
change-places a b c = sym (+ℤ_assoc a b c) ∙ ap (λ (z : ℤ). z +ℤ c) (+ℤ_comm a b) ∙ +ℤ_assoc b a c

module _ (file : List ℕ) (t : Tables) (p : ObjectSection) (s : Shifts) (off : ℕ) where
  abbrev term : ℕ → ℤ
  term i = cond (is_on off (object_entry file t p i)) (amount_of (object_entry file t p i) s) (pos 0)

  -- the last entry taken first
  last-first : (n i : ℕ) → amounts_on off (entries_from file t p i (suc n)) s ≡ term (i + n) +ℤ amounts_on off (entries_from file t p i n) s
  unfolding amounts_on entries_from
  last-first zero i = ap (λ (k : ℕ). term k +ℤ pos 0) (let e : i ≡ i + 0 = omega arith in e)
  last-first (suc n) i =
      ap (λ (z : ℤ). term i +ℤ z) (last-first n (suc i))
      ∙ change-places (term i) (term (suc i + n)) (amounts_on off (entries_from file t p (suc i) n) s)
      ∙ ap (λ (k : ℕ). term k +ℤ (term i +ℤ amounts_on off (entries_from file t p (suc i) n) s)) (let e : suc i + n ≡ i + suc n = omega arith in e)

-- the sum by number is the sum over the section's entries
pub sum-amounts : (file : List ℕ) (t : Tables) (p : ObjectSection) (n : ℕ) (s : Shifts) (off : ℕ)
    → sum_on (object_entry file t p) n s off ≡ amounts_on off (entries_from file t p 0 n) s
unfolding sum_on amounts_on entries_from
sum-amounts file t p zero s off = refl
sum-amounts file t p (suc n) s off =
    ap (λ (z : ℤ). term file t p s off n +ℤ z) (sum-amounts file t p n s off)
    ∙ ap (λ (k : ℕ). term file t p s off k +ℤ amounts_on off (entries_from file t p 0 n) s) (let e : n ≡ 0 + n = omega arith in e)
    ∙ sym (last-first file t p s off n 0)

-- ---- by its remainder

module _ (r : ℕ → ObjectEntry) (s : Shifts) (shifts : (k : ℕ) → nat_abs (s k) ≤ 2 ^ 65) where
  abs-sum : (n off : ℕ) → nat_abs (sum_on r n s off) ≤ n * 2 ^ 66
  unfolding sum_on
  abs-sum zero off = omega arith
  abs-sum (suc n) off = omega (arith, abs-add (cond (is_on off (r n)) (amount_of (r n) s) (pos 0)) (sum_on r n s off), by-test (is_on off (r n)), abs-sum n off)
    where
      by-test : (t : Bool) → nat_abs (cond t (amount_of (r n) s) (pos 0)) ≤ 2 ^ 66
      by-test true = omega (arith, abs-amount s (2 ^ 65) shifts (r n).amount (r n).symbol (r n).name.section.0)
      by-test false = omega arith

-- a word's value and its sum are in range as their remainder modulo 2^96 says
pub word-told : (r : ℕ → ObjectEntry) (n : ℕ) (s : Shifts) (v off : ℕ) → Small n s
    → in_range (branch_value v +ℤ sum_on r n s off) ≡ wide_in_range (wide (branch_value v +ℤ sum_on r n s off))
word-told r n s v off small =
    wide-range (branch_value v +ℤ sum_on r n s off) (omega (arith, abs-add (branch_value v) (sum_on r n s off), abs-value v, abs-sum r s small.shifts n off, small.few))
