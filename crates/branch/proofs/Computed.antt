-- Sums as they are computed, by a word of 64 bits and one of 32. Assumes nothing.
use Rattle.std.proofs.Common.{◌≡◌, ℕ, suc, ◌+◌, ◌-◌, ◌*◌, ◌/◌, ◌%◌, ◌^◌, ◌<◌, ◌≤◌, Bool, true, false, cond, ◌&&◌, ◌||◌, eqb, ltb, leb, ℤ, pos, ◌+ℤ◌, ◌-ℤ◌, neg_ℤ, sym, refl, ap, ◌∙◌, ap₂, mod-lt, mod-eq_of_lt, arith, lit<, le-ltb, lt-ltb, eq-eqb, ne_eqb, le-leb}
use borrow.Author.Tests.{lt-leb}
use Rattle.update.specs.Update.{remainder}
use Rattle.update.proofs.Remainder.{remainder-sub}
use Rattle.field_kind.specs.Field.{branch_limit}
use Rattle.branch.specs.Branch.{signed, branch_value, wide, wide_in_range}
use Rattle.branch.proofs.Wide.{same-leb, same-eqb, or-false}

module _ (h l a : ℕ) (hs : h < 4294967296) (ls : l < 18446744073709551616) (fit : a < 18446744073709551616) where
  pub plus-carry : (r t : ℕ) → r ≡ (l + a) % 18446744073709551616 → r < a → t ≡ (h + 1) % 4294967296 → t * 2 ^ 64 + r ≡ wide (pos (h * 2 ^ 64 + l + a))
  unfolding wide remainder
  plus-carry r t e c f = omega arith

  pub plus_none : (r : ℕ) → r ≡ (l + a) % 18446744073709551616 → a ≤ r → h * 2 ^ 64 + r ≡ wide (pos (h * 2 ^ 64 + l + a))
  unfolding wide remainder
  plus_none r e c = omega arith

  take-away : (d : ℕ) → d < 2 ^ 96 → (d + a) % 2 ^ 96 ≡ (h * 2 ^ 64 + l) % 2 ^ 96 → d ≡ wide (pos (h * 2 ^ 64 + l) +ℤ neg_ℤ (pos a))
  unfolding wide
  take-away d s e = remainder-sub (2 ^ 96) (lit< tt) d (pos (h * 2 ^ 64 + l)) (pos a) s (unfold remainder in e)

  pub minus-borrow : (r t : ℕ) → r < 18446744073709551616 → t < 4294967296 → (r + a) % 18446744073709551616 ≡ l → l < a → (t + 1) % 4294967296 ≡ h
      → t * 2 ^ 64 + r ≡ wide (pos (h * 2 ^ 64 + l) +ℤ neg_ℤ (pos a))
  minus-borrow r t rs ts e c f = take-away (t * 2 ^ 64 + r) (omega arith) (omega arith)

  pub minus-none : (r : ℕ) → r < 18446744073709551616 → (r + a) % 18446744073709551616 ≡ l → a ≤ l → h * 2 ^ 64 + r ≡ wide (pos (h * 2 ^ 64 + l) +ℤ neg_ℤ (pos a))
  minus-none r rs e c = take-away (h * 2 ^ 64 + r) (omega arith) (omega arith)

-- ---- a word's own value

pub value-forward : (v n : ℕ) → n ≡ v % 67108864 / 4 * 4 → n < 33554432 → 0 * 2 ^ 64 + n ≡ wide (branch_value v)
unfolding wide branch_value remainder
value-forward v n e h = let q : n % 2 ^ 96 ≡ n = mod-eq_of_lt (omega arith) in rw (← e) (rw (lt-ltb n 33554432 h, q) (omega arith))

pub value-back : (v n : ℕ) → n ≡ v % 67108864 / 4 * 4 → 33554432 ≤ n → 4294967295 * 2 ^ 64 + (18446744073642442752 + n) ≡ wide (branch_value v)
unfolding wide branch_value remainder
value-back v n e h =
    let s : n < 67108864 = (let m : v % 67108864 < 67108864 = mod-lt v (lit< tt) in omega arith) in
    let q : (67108864 - suc n) % 2 ^ 96 ≡ 67108864 - suc n = mod-eq_of_lt (omega arith) in
    rw (← e) (rw (le-ltb n 33554432 h, lt-ltb n 67108864 s, q) (omega arith))

-- as what is added or taken away
pub value-added : (v n : ℕ) → n ≡ v % 67108864 / 4 * 4 → n < 33554432 → pos n ≡ branch_value v
unfolding branch_value
value-added v n e h = rw (← e) (rw (lt-ltb n 33554432 h) refl)

pub value_taken : (v n : ℕ) → n ≡ v % 67108864 / 4 * 4 → 33554432 ≤ n → neg_ℤ (pos (67108864 - n)) ≡ branch_value v
unfolding branch_value
value_taken v n e h =
    let s : n < 67108864 = (let m : v % 67108864 < 67108864 = mod-lt v (lit< tt) in omega arith) in
    let d : 67108864 - n ≡ suc (67108864 - suc n) = omega arith in
    rw (← e) (rw (le-ltb n 33554432 h, lt-ltb n 67108864 s, d) refl)

-- ---- the test

module _ (h l : ℕ) (hs : h < 4294967296) (ls : l < 18446744073709551616) where
  pub range-step : (l % 4 ≡ 0 → ⊥) → false ≡ wide_in_range (h * 2 ^ 64 + l)
  unfolding wide_in_range
  range-step n =
      let z : eqb ((h * 2 ^ 64 + l) % 4) 0 ≡ false = ne_eqb ((h * 2 ^ 64 + l) % 4) 0 (λ e. n (omega arith)) in
      rw z (none (leb (h * 2 ^ 64 + l) 33554428 || leb (2 ^ 96 - 33554432) (h * 2 ^ 64 + l)))
    where
      none : (b : Bool) → false ≡ (b && false)
      none true = refl
      none false = refl

  pub range-low : l % 4 ≡ 0 → h ≡ 0 → leb l 33554428 ≡ wide_in_range (h * 2 ^ 64 + l)
  unfolding wide_in_range
  range-low d z =
      let s : eqb ((h * 2 ^ 64 + l) % 4) 0 ≡ true = eq-eqb ((h * 2 ^ 64 + l) % 4) 0 (omega arith) in
      let f : leb (2 ^ 96 - 33554432) (h * 2 ^ 64 + l) ≡ false = lt-leb (2 ^ 96 - 33554432) (h * 2 ^ 64 + l) (omega arith) in
      rw (s, f) (same-leb l 33554428 (h * 2 ^ 64 + l) 33554428 (λ k. omega arith) (λ k. omega arith) ∙ sides (leb (h * 2 ^ 64 + l) 33554428))
    where
      sides : (b : Bool) → b ≡ ((b || false) && true)
      sides true = refl
      sides false = refl

  pub range-middle : (h ≡ 0 → ⊥) → (h ≡ 4294967295 → ⊥) → false ≡ wide_in_range (h * 2 ^ 64 + l)
  unfolding wide_in_range
  range-middle n m =
      let e : leb (h * 2 ^ 64 + l) 33554428 ≡ false = lt-leb (h * 2 ^ 64 + l) 33554428 (omega arith) in
      let f : leb (2 ^ 96 - 33554432) (h * 2 ^ 64 + l) ≡ false = lt-leb (2 ^ 96 - 33554432) (h * 2 ^ 64 + l) (omega arith) in
      rw (e, f) refl

  pub range-high : l % 4 ≡ 0 → h ≡ 4294967295 → leb 18446744073675997184 l ≡ wide_in_range (h * 2 ^ 64 + l)
  unfolding wide_in_range
  range-high d z =
      let s : eqb ((h * 2 ^ 64 + l) % 4) 0 ≡ true = eq-eqb ((h * 2 ^ 64 + l) % 4) 0 (omega arith) in
      let e : leb (h * 2 ^ 64 + l) 33554428 ≡ false = lt-leb (h * 2 ^ 64 + l) 33554428 (omega arith) in
      rw (s, e) (same-leb 18446744073675997184 l (2 ^ 96 - 33554432) (h * 2 ^ 64 + l) (λ k. omega arith) (λ k. omega arith) ∙ sides (leb (2 ^ 96 - 33554432) (h * 2 ^ 64 + l)))
    where
      sides : (b : Bool) → b ≡ (b && true)
      sides true = refl
      sides false = refl
