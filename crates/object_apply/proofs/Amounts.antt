-- The numbers that the code has for amounts are the exact ones modulo 2^64. Assumes nothing.
use Rattle.std.proofs.Common.{◌≡◌, ℕ, ◌+◌, ◌%◌, ◌^◌, ◌<◌, List, get_or, ℤ, pos, ◌-ℤ◌, neg_ℤ, sym, refl, ap, ◌∙◌, lit<}
use native.Mathlib.Nat.{mod-mod}
use lib.IntN.{+ℤ_comm, +ℤ_idl}
use Rattle.update.specs.Update.{remainder}
use Rattle.update.proofs.Remainder.{remainder-lt, remainder-small, remainder-cong, remainder-sub}
use Rattle.object_history.specs.declared.AmountKind.{AmountKind}
use Rattle.object_history.specs.declared.AmountKind.TheVariants.{Plus, Minus, Relative}
use Rattle.object_history.specs.Entry.{amount_by}
use Rattle.object_plan.specs.Shifts.{address_shifts}

-- ---- modulo 2^64

-- an integer and its remainder have one remainder
pub same : (z : ℤ) {r : ℕ} → r ≡ remainder z (2 ^ 64) → remainder (pos r) (2 ^ 64) ≡ remainder z (2 ^ 64)
same z e = ap (λ (k : ℕ). remainder (pos k) (2 ^ 64)) e ∙ remainder-small (2 ^ 64) (lit< tt) (remainder z (2 ^ 64)) (remainder-lt (2 ^ 64) (lit< tt) z)

wrapped : (n a : ℕ) → n % 2 ^ 64 ≡ a → remainder (pos n) (2 ^ 64) ≡ remainder (pos a) (2 ^ 64)
unfolding remainder
wrapped n a e = sym (mod-mod n (2 ^ 64)) ∙ ap (λ (k : ℕ). k % 2 ^ 64) e

-- the wrapping difference of two numbers is that of the integers that they stand for
pub wrapped-difference : {r : ℕ} (a b : ℕ) (x y : ℤ) → r < 2 ^ 64 → (r + b) % 2 ^ 64 ≡ a → remainder (pos a) (2 ^ 64) ≡ remainder x (2 ^ 64)
    → remainder (pos b) (2 ^ 64) ≡ remainder y (2 ^ 64) → r ≡ remainder (x -ℤ y) (2 ^ 64)
wrapped-difference {r} a b x y h e p q =
    let m : ℤ → ℕ = λ z. remainder z (2 ^ 64) in
    remainder-sub (2 ^ 64) (lit< tt) r x y h
    (ap m (+ℤ_comm (pos r) y) ∙ remainder-cong (2 ^ 64) (lit< tt) y (pos b) (pos r) (sym q) ∙ ap m (+ℤ_comm (pos b) (pos r)) ∙ wrapped (r + b) a e ∙ p)

-- ---- shifts and amounts

pub shift-told : (to from : List ℕ) (n : ℕ) {r : ℕ} → r < 2 ^ 64 → (r + get_or from n 0) % 2 ^ 64 ≡ get_or to n 0 → r ≡ remainder (address_shifts to from n) (2 ^ 64)
unfolding address_shifts
shift-told to from n h e = wrapped-difference (get_or to n 0) (get_or from n 0) (pos (get_or to n 0)) (pos (get_or from n 0)) h e refl refl

module _ {k : AmountKind} (x y : ℤ) {z : ℕ} (e : z ≡ remainder x (2 ^ 64)) where
  pub plus-told : k ≡ Plus → z ≡ remainder (amount_by k x y) (2 ^ 64)
  plus-told h = rw h e

  pub minus-told : {r : ℕ} → k ≡ Minus → r < 2 ^ 64 → (r + z) % 2 ^ 64 ≡ 0 → r ≡ remainder (amount_by k x y) (2 ^ 64)
  minus-told h l q = rw h (wrapped-difference 0 z (pos 0) x l q refl (same x e) ∙ ap (λ (a : ℤ). remainder a (2 ^ 64)) (+ℤ_idl (neg_ℤ x)))

  pub relative-told : {r : ℕ} (w : ℕ) → k ≡ Relative → w ≡ remainder y (2 ^ 64) → r < 2 ^ 64 → (r + w) % 2 ^ 64 ≡ z → r ≡ remainder (amount_by k x y) (2 ^ 64)
  relative-told w h d l q = rw h (wrapped-difference z w x y l q (same x e) (same y d))
