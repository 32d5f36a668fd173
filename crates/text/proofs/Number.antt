-- The laws of numbers as text: how long they are, and one digit more. Assumes nothing.
use mathlib.Core.Path.{◌≡◌, refl, sym, ap}
use mathlib.Core.Bool.{Bool, true, false}
use Prim.Native.Nat.{ℕ, zero, suc, ◌-◌, ◌/◌, ◌^◌, ◌≤◌, ◌<◌}
use native.Mathlib.Nat.{pow-suc, div-div-eq-div-mul, le_refl}
use native.Mathlib.Omega.{arith}
use borrow.Author.Tests.{lt-ltb, le-ltb, ltb-true, ltb-false}
use lib.Dec.{ltb}
use lib.ListN.{length}
use Rattle.text.specs.Text.{digits, places_in, places, decimal, hex}

-- what is left of v after one digit more of n
pub quotient-next : (v b n i : ℕ) → 0 < i → i ≤ n → v / b ^ (n - i) / b ≡ v / b ^ (n - (i - 1))
quotient-next v b n i h k =
    let q : n - (i - 1) ≡ suc (n - i) = omega arith in
    rw (q, pow-suc b (n - i)) (div-div-eq-div-mul v (b ^ (n - i)) b)

pub length_digits : (b k v : ℕ) → length (digits b k v) ≡ k
unfolding digits
length_digits b zero v = refl
length_digits b (suc k) v = ap suc (length_digits b k v)

few : (n v : ℕ) → v < 10 → places_in n v ≡ 1
unfolding places_in
few zero v h = refl
few (suc n) v h = rw (lt-ltb v 10 h)

-- any number of divisions from v on gives the same
enough : (n m v : ℕ) → v ≤ n → v ≤ m → places_in n v ≡ places_in m v
unfolding places_in
enough zero m v h k = sym (few m v (omega arith))
enough (suc n) zero v h k = few (suc n) v (omega arith)
enough (suc n) (suc m) v h k = rw (enough n m (v / 10) (omega arith) (omega arith))

-- a number below 10 has one place, any other one more than its tenth
pub places-one : (v : ℕ) → v < 10 → places v ≡ 1
unfolding places
places-one v h = few v v h

pub places-more : (v : ℕ) → 10 ≤ v → places v ≡ suc (places (v / 10))
unfolding places places_in
places-more zero h = absurd (omega arith)
places-more (suc v) h = rw (le-ltb (suc v) 10 h) (ap suc (enough v (suc v / 10) (suc v / 10) (omega arith) (le_refl (suc v / 10))))

places-bound : (k v : ℕ) → v < 10 ^ suc k → places v ≤ suc k
places-bound zero v h = omega (arith, places-one v h)
places-bound (suc k) v h = by-test (ltb v 10) refl (places-bound k (v / 10) (omega (arith, pow-suc 10 (suc k))))
  where
    by-test : (b : Bool) → ltb v 10 ≡ b → places (v / 10) ≤ suc k → places v ≤ suc (suc k)
    by-test true e r = omega (arith, places-one v (ltb-true v 10 e))
    by-test false e r = omega (arith, places-more v (ltb-false v 10 e))

-- a number of 64 bits has at most 20 places
pub places-short : (v : ℕ) → v < 2 ^ 64 → places v ≤ 20
places-short v h = places-bound 19 v (omega arith)

pub length-decimal : (v : ℕ) → length (decimal v) ≡ places v
unfolding decimal
length-decimal v = length_digits 10 (places v) v

pub decimal-bound : (k v : ℕ) → v < 10 ^ suc k → length (decimal v) ≤ suc k
decimal-bound k v h = omega (arith, length-decimal v, places-bound k v h)

pub decimal-short : (v : ℕ) → v < 2 ^ 64 → length (decimal v) ≤ 20
decimal-short v h = decimal-bound 19 v (omega arith)

pub length-hex : (k v : ℕ) → length (hex k v) ≡ k
unfolding hex
length-hex k v = length_digits 16 k v
