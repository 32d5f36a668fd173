-- What RANGE guarantees of a branch word: its exact value, and its bottom two bits. Assumes nothing.
use Rattle.std.proofs.Common.{◌≡◌, ℕ, suc, ◌+◌, ◌-◌, ◌*◌, ◌/◌, ◌%◌, ◌<◌, ◌≤◌, Bool, true, false, cond, eqb, ltb, leb, ℤ, pos, negsuc, ◌+ℤ◌, ◌-ℤ◌, neg_ℤ, sym, refl, ap, ◌∙◌, mod-lt, mod-eq_of_lt, arith, lit<, ltb-false, ltb-true, le-ltb, lt-ltb, eq-eqb, eqb-true, le-leb, leb-true}
use native.Mathlib.Nat.{mod-mod, mod-mod_of_dvd, dvd-mul_left, mul-mod_left}
use lib.IntN.{+ℤ_assoc, +ℤ_comm, +ℤ_idl}
use Rattle.word.proofs.Test.{and_first, and_second}
use Rattle.update.specs.Update.{remainder}
use Rattle.update.proofs.Remainder.{remainder-lt, remainder-cong, remainder-add, remainder-divides}
use Rattle.field_kind.specs.Field.{branch_limit}
use Rattle.branch.specs.Branch.{signed, branch_value, in_range}

-- ---- numbers

-- remainders modulo 2^26 and modulo 4
abbrev pub rem : ℤ → ℕ
rem z = remainder z branch_limit

abbrev low : ℕ → ℕ
low v = v % branch_limit / 4 * 4

pub rem-pos : (n : ℕ) → rem (pos n) ≡ n % branch_limit
unfolding remainder
rem-pos n = refl

rem-four : (z : ℤ) → rem z % 4 ≡ remainder z 4
rem-four z = remainder-divides 4 branch_limit (lit< tt) (lit< tt) (dvd-mul_left 4 16777216) z

rem-cong : (x y z : ℤ) → rem x ≡ rem y → rem (x +ℤ z) ≡ rem (y +ℤ z)
rem-cong = remainder-cong branch_limit (lit< tt)

-- a signed number has the number's remainder
minus-limit : (n : ℕ) → rem (pos n -ℤ pos branch_limit) ≡ rem (pos n)
minus-limit n =
    ap rem (+ℤ_comm (pos n) (neg_ℤ (pos branch_limit))) ∙ rem-cong (neg_ℤ (pos branch_limit)) (pos 0) (pos n) (unfold remainder in refl) ∙ ap rem (+ℤ_idl (pos n))

rem-signed : (n : ℕ) → n < branch_limit → rem (signed n) ≡ n
rem-signed n h = by-test (ltb n 33554432)
  where
    by-test : (t : Bool) → rem (cond t (pos n) (pos n -ℤ pos branch_limit)) ≡ n
    by-test true = rem-pos n ∙ mod-eq_of_lt h
    by-test false = minus-limit n ∙ rem-pos n ∙ mod-eq_of_lt h

-- a branch's value has the remainder of its low 26 bits without the bottom two
rem_value : (v : ℕ) → rem (branch_value v) ≡ low v
unfolding branch_value
rem_value v = rem-signed (low v) (let h : v % branch_limit < branch_limit = mod-lt v (lit< tt) in omega arith)

-- a value in range is a step of 4
range-step : (z : ℤ) → in_range z ≡ true → remainder z 4 ≡ 0
unfolding in_range remainder
range-step (pos n) h = eqb-true (n % 4) 0 (and_second (leb n 33554428) _ h)
range-step (negsuc n) h = let e : suc n % 4 ≡ 0 = eqb-true (suc n % 4) 0 (and_second (leb (suc n) 33554432) _ h) in omega arith

-- and is the signed number of its remainder
range-signed : (z : ℤ) → in_range z ≡ true → signed (rem z) ≡ z
unfolding in_range remainder
range-signed (pos n) h =
    let l : n ≤ 33554428 = leb-true n 33554428 (and_first _ _ h) in
    let e : n % branch_limit ≡ n = mod-eq_of_lt (omega arith) in
    rw (e, lt-ltb n 33554432 (omega arith)) refl
range-signed (negsuc n) h =
    let l : suc n ≤ 33554432 = leb-true (suc n) 33554432 (and_first _ _ h) in
    let e : n % branch_limit ≡ n = mod-eq_of_lt (omega arith) in
    let m : branch_limit - suc n < branch_limit = omega arith in
    let k : branch_limit - suc (branch_limit - suc n) ≡ n = omega arith in
    rw (e, le-ltb (branch_limit - suc n) 33554432 (omega arith), lt-ltb (branch_limit - suc n) branch_limit m, k) refl

-- ---- a branch word v that becomes u by an exact sum a

module _ (v u : ℕ) (a : ℤ) (e : u % branch_limit ≡ rem (pos v +ℤ a)) (h : in_range (branch_value v +ℤ a) ≡ true) where
  -- the word is its value and its bottom two bits
  split-word : rem (pos v) ≡ rem (branch_value v +ℤ pos (v % 4))
  split-word =
      let d : v % branch_limit % 4 ≡ v % 4 = mod-mod_of_dvd 4 v (dvd-mul_left 4 16777216) in
      let p : low v + v % 4 ≡ v % branch_limit = omega arith in
      let l : v % branch_limit < branch_limit = mod-lt v (lit< tt) in
      rem-pos v ∙ sym (mod-mod v branch_limit) ∙ ap (λ (k : ℕ). k % branch_limit) (sym p) ∙ sym (rem-pos (low v + v % 4))
      ∙ rem-cong (pos (low v)) (branch_value v) (pos (v % 4)) (rem-pos (low v) ∙ mod-eq_of_lt (omega arith) ∙ sym (rem_value v))

  -- the sum's remainder is a step of 4
  sum_step : rem (branch_value v +ℤ a) % 4 ≡ 0
  sum_step = rem-four (branch_value v +ℤ a) ∙ range-step (branch_value v +ℤ a) h

  sum_below : rem (branch_value v +ℤ a) < branch_limit
  sum_below = remainder-lt branch_limit (lit< tt) (branch_value v +ℤ a)

  -- the new word's low 26 bits: the sum's remainder and the old bottom two bits
  new_word : u % branch_limit ≡ rem (branch_value v +ℤ a) + v % 4
  new_word =
      e ∙ rem-cong (pos v) (branch_value v +ℤ pos (v % 4)) a split-word
      ∙ ap rem (+ℤ_assoc (branch_value v) (pos (v % 4)) a ∙ ap (λ (z : ℤ). branch_value v +ℤ z) (+ℤ_comm (pos (v % 4)) a) ∙ sym (+ℤ_assoc (branch_value v) a (pos (v % 4))))
      ∙ sym (remainder-add branch_limit (lit< tt) (branch_value v +ℤ a) (pos (v % 4)))
      ∙ rem-pos (rem (branch_value v +ℤ a) + v % 4)
      ∙ mod-eq_of_lt (omega (arith, sum_step, sum_below))

  -- the bottom two bits stay
  pub bottom-kept : u % 4 ≡ v % 4
  bottom-kept =
      let d : u % branch_limit % 4 ≡ u % 4 = mod-mod_of_dvd 4 u (dvd-mul_left 4 16777216) in
      omega (arith, new_word, sum_step)

  -- the new value is the exact sum
  pub value-exact : branch_value u ≡ branch_value v +ℤ a
  value-exact =
      let l : low u ≡ rem (branch_value v +ℤ a) = omega (arith, new_word, sum_step) in
      value_low l ∙ range-signed (branch_value v +ℤ a) h
    where
      value_low : {n : ℕ} → low u ≡ n → branch_value u ≡ signed n
      value_low l = unfold branch_value in ap signed l

-- ---- nothing added

-- a branch's own value is in range
pub value-in-range : (v : ℕ) → in_range (branch_value v) ≡ true
unfolding branch_value
value-in-range v = by-test (ltb (low v) 33554432) refl
  where
    in-range : (n : ℕ) → n % 4 ≡ 0 → n < branch_limit → (t : Bool) → ltb n 33554432 ≡ t → in_range (cond t (pos n) (pos n -ℤ pos branch_limit)) ≡ true
    in-range n s h true q = unfold in_range in (let l : n < 33554432 = ltb-true n 33554432 q in rw (le-leb n 33554428 (omega arith), eq-eqb (n % 4) 0 s) refl)
    in-range n s h false q = unfold in_range in
        (let l : 33554432 ≤ n = ltb-false n 33554432 q in
        let k : suc (branch_limit - suc n) ≤ 33554432 = omega arith in
        let d : suc (branch_limit - suc n) % 4 ≡ 0 = omega arith in
        rw (lt-ltb n branch_limit h, le-leb (suc (branch_limit - suc n)) 33554432 k, eq-eqb (suc (branch_limit - suc n) % 4) 0 d) refl)

    by-test : (t : Bool) → ltb (low v) 33554432 ≡ t → in_range (cond t (pos (low v)) (pos (low v) -ℤ pos branch_limit)) ≡ true
    by-test t q =
        let l : v % branch_limit < branch_limit = mod-lt v (lit< tt) in
        in-range (low v) (mul-mod_left (v % branch_limit / 4) 4) (omega arith) t q
