-- An exact sum that is not huge is told by its remainder modulo 2^96. Assumes nothing.
use Rattle.std.proofs.Common.{◌≡◌, ℕ, zero, suc, ◌+◌, ◌-◌, ◌*◌, ◌/◌, ◌%◌, ◌^◌, ◌<◌, ◌≤◌, Bool, true, false, cond, ◌&&◌, ◌||◌, eqb, ltb, leb, ℤ, pos, negsuc, ◌+ℤ◌, ◌-ℤ◌, neg_ℤ, nat_abs, sym, refl, ap, ◌∙◌, ap₂, mod-lt, mod-eq_of_lt, arith, lit<, ltb-false, ltb-true, lt-ltb, eq-eqb, ne_eqb, le-leb}
use native.Mathlib.Decide.{dec_le, ℕ_discrete}
use lib.IntN.{sub_ℕ}
use borrow.Author.Tests.{lt-leb}
use Rattle.update.specs.Update.{remainder}
use Rattle.update.proofs.Remainder.{remainder-add}
use Rattle.field_kind.specs.Field.{branch_limit}
use Rattle.branch.specs.Branch.{signed, branch_value, in_range, wide, wide_in_range}

-- tests that decide alike are equal
pub same-leb : (a b c d : ℕ) → (a ≤ b → c ≤ d) → (c ≤ d → a ≤ b) → leb a b ≡ leb c d
same-leb a b c d f g = go (dec_le a b)
  where
    go : Dec (a ≤ b) → leb a b ≡ leb c d
    go (yes h) = le-leb a b h ∙ sym (le-leb c d (f h))
    go (no h) = lt-leb a b (omega arith) ∙ sym (lt-leb c d (let n : ¬ (c ≤ d) = λ k. h (g k) in omega arith))

pub same-eqb : (a b c d : ℕ) → (a ≡ b → c ≡ d) → (c ≡ d → a ≡ b) → eqb a b ≡ eqb c d
same-eqb a b c d f g = go (ℕ_discrete a b)
  where
    go : Dec (a ≡ b) → eqb a b ≡ eqb c d
    go (yes h) = eq-eqb a b h ∙ sym (eq-eqb c d (f h))
    go (no h) = ne_eqb a b h ∙ sym (ne_eqb c d (λ k. h (g k)))

pub or-false : (b : Bool) → (b || false) ≡ b
or-false true = refl
or-false false = refl

pub wide-range : (z : ℤ) → nat_abs z < 2 ^ 95 → in_range z ≡ wide_in_range (wide z)
unfolding in_range wide_in_range wide remainder
wide-range (pos n) h =
    let e : n % 2 ^ 96 ≡ n = mod-eq_of_lt (omega arith) in
    let f : leb (2 ^ 96 - 33554432) n ≡ false = lt-leb (2 ^ 96 - 33554432) n (omega arith) in
    rw (e, f, or-false (leb n 33554428)) refl
wide-range (negsuc n) h =
    let e : n % 2 ^ 96 ≡ n = mod-eq_of_lt (omega arith) in
    let f : leb (2 ^ 96 - suc n) 33554428 ≡ false = lt-leb (2 ^ 96 - suc n) 33554428 (omega arith) in
    rw (e, f)
    (ap₂ (λ (a b : Bool). a && b) (same-leb (suc n) 33554432 (2 ^ 96 - 33554432) (2 ^ 96 - suc n) (λ k. omega arith) (λ k. omega arith))
    (same-eqb (suc n % 4) 0 ((2 ^ 96 - suc n) % 4) 0 (λ k. omega arith) (λ k. omega arith)))

-- ---- how large a sum can be

-- of a difference
abs-sub : (a b : ℕ) → nat_abs (sub_ℕ a b) ≤ a + b
abs-sub a b = by-test (ltb a b) refl
  where
    by-test : (t : Bool) → ltb a b ≡ t → nat_abs (cond t (negsuc (b - suc a)) (pos (a - b))) ≤ a + b
    by-test true q = let h : a < b = ltb-true a b q in omega arith
    by-test false q = omega arith

-- of a sum
pub abs-add : (a b : ℤ) → nat_abs (a +ℤ b) ≤ nat_abs a + nat_abs b
abs-add (pos a) (pos b) = omega arith
abs-add (pos a) (negsuc b) = abs-sub a (suc b)
abs-add (negsuc a) (pos b) = let h = abs-sub b (suc a) in omega arith
abs-add (negsuc a) (negsuc b) = omega arith

pub abs_neg : (a : ℤ) → nat_abs (neg_ℤ a) ≤ nat_abs a
abs_neg (pos zero) = omega arith
abs_neg (pos (suc n)) = omega arith
abs_neg (negsuc n) = omega arith

-- of a branch's value
abs-signed : (n : ℕ) → n < branch_limit → nat_abs (signed n) ≤ 33554432
abs-signed n l = by-test (ltb n 33554432) refl
  where
    by-test : (t : Bool) → ltb n 33554432 ≡ t → nat_abs (cond t (pos n) (pos n -ℤ pos branch_limit)) ≤ 33554432
    by-test true q = let h : n < 33554432 = ltb-true n 33554432 q in omega arith
    by-test false q = let h : 33554432 ≤ n = ltb-false n 33554432 q in rw (lt-ltb n branch_limit l) (omega arith)

pub abs-value : (v : ℕ) → nat_abs (branch_value v) ≤ 33554432
unfolding branch_value
abs-value v = let l : v % branch_limit < branch_limit = mod-lt v (lit< tt) in abs-signed (v % branch_limit / 4 * 4) (omega arith)

-- ---- sums of sums

-- what is added to a sum's remainder is added to the sum
pub wide-add : (x z : ℤ) → wide (pos (wide x) +ℤ z) ≡ wide (x +ℤ z)
unfolding wide
wide-add x z = remainder-add (2 ^ 96) (lit< tt) x z
