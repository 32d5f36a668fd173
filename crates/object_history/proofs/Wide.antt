-- RANGE by a remainder modulo 2^96: how large the exact sum on a word can be. Assumes nothing.
use mathlib.Core.Path.{◌≡◌}
use mathlib.Core.Bool.{Bool, true, false, cond}
use mathlib.Core.List.{List, [], ◌∷◌}
use Prim.Native.Nat.{ℕ, ◌+◌, ◌*◌, ◌^◌, ◌≤◌, ◌<◌}
use native.Mathlib.Omega.{arith}
use lib.ListN.{length}
use lib.IntN.{pos, neg_ℤ, nat_abs}
use Rattle.word.specs.Number.{field_at}
use Rattle.book.specs.Machine.{Shifts}
use Rattle.branch.specs.Branch.{branch_value, in_range, wide, wide_in_range}
use Rattle.branch.proofs.Wide.{wide-range, abs-add, abs_neg, abs-value}
use Rattle.object_history.specs.declared.AmountKind.{AmountKind}
use Rattle.object_history.specs.declared.AmountKind.TheVariants.{Plus, Minus, Relative}
use Rattle.object_history.specs.declared.ObjectEntry.{ObjectEntry}
use Rattle.object_history.specs.Entry.{amount_by, amount_of}
use Rattle.object_history.specs.Range.{is_on, amounts_on, branch_sum}

module _ (s : Shifts) (bound : ℕ) (small : (k : ℕ) → nat_abs (s k) ≤ bound) where
  -- of an entry's amount
  pub abs-amount : (k : AmountKind) (a b : ℕ) → nat_abs (amount_by k (s a) (s b)) ≤ bound + bound
  abs-amount Plus a b = omega (arith, small a)
  abs-amount Minus a b = omega (arith, small a, abs_neg (s a))
  abs-amount Relative a b = omega (arith, small a, small b, abs_neg (s b), abs-add (s a) (neg_ℤ (s b)))

  -- of all on a word
  abs-amounts : (off : ℕ) (es : List ObjectEntry) → nat_abs (amounts_on off es s) ≤ length es * (bound + bound)
  unfolding amounts_on
  abs-amounts off [] = omega arith
  abs-amounts off (e ∷ es) =
      omega (arith, abs-add (cond (is_on off e) (amount_of e s) (pos 0)) (amounts_on off es s), by-test (is_on off e), abs-amounts off es)
    where
      by-test : (t : Bool) → nat_abs (cond t (amount_of e s) (pos 0)) ≤ bound + bound
      by-test true = abs-amount e.amount e.symbol e.name.section.0
      by-test false = omega arith

-- RANGE of a file with fewer than 2^28 entries, by shifts of at most 65 bits, from the sum's remainder modulo 2^96
pub range-told : (es : List ObjectEntry) (s : Shifts) (x : List ℕ) (off : ℕ) → length es < 2 ^ 28 → ((k : ℕ) → nat_abs (s k) ≤ 2 ^ 65)
    → in_range (branch_sum es s x off) ≡ wide_in_range (wide (branch_sum es s x off))
range-told es s x off few small = wide-range (branch_sum es s x off) bounded
  where
    bounded : nat_abs (branch_sum es s x off) < 2 ^ 95
    bounded = unfold branch_sum in
        omega (arith, abs-add (branch_value (field_at 4 off x)) (amounts_on off es s), abs-value (field_at 4 off x), abs-amounts s (2 ^ 65) small off es)
