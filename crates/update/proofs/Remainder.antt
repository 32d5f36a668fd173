-- Laws of the remainder of an exact integer. Assumes nothing.
use Rattle.std.proofs.Common.{◌≡◌, ℕ, zero, suc, ◌-◌, ◌%◌, ◌<◌, ◌⊎◌, ℤ, pos, negsuc, ◌+ℤ◌, ◌-ℤ◌, neg_ℤ, sym, ap, ◌∙◌, inl, inr, ⊎_elim, mod-lt, mod-eq_of_lt, arith}
use Prim.Native.Nat.{◌∣◌}
use native.Mathlib.Nat.{mod_self, suc-mod, zero-mod, mod-mod_of_dvd}
use native.Mathlib.Decide.{dec_lt}
use lib.IntN.{suc_ℤ, pred_ℤ, +ℤ_comm, +ℤ-suc_ℤ, +ℤ-pred_ℤ, +ℤ_idr, +ℤ_idl, +ℤ_invr, suc-pred, +ℤ-neg_ℤ_cancel}
use Rattle.update.specs.Update.{remainder}

-- a number below m is the last one or not
last-or-not : (m r : ℕ) → r < m → (suc r < m) ⊎ (suc r ≡ m)
last-or-not m r h = go (dec_lt (suc r) m)
  where
    go : Dec (suc r < m) → (suc r < m) ⊎ (suc r ≡ m)
    go (yes a) = inl a
    go (no b) = inr (omega (arith, h))

module _ (m : ℕ) (m>0 : 0 < m) where
  -- a remainder is below m
  pub remainder-lt : (x : ℤ) → remainder x m < m
  unfolding remainder
  remainder-lt (pos n) = mod-lt n m>0
  remainder-lt (negsuc n) = omega arith

  -- a number below m is its own remainder
  pub remainder-small : (v : ℕ) → v < m → remainder (pos v) m ≡ v
  unfolding remainder
  remainder-small v h = mod-eq_of_lt h

  -- the successor of the last remainder is 0
  suc-last : (r : ℕ) → suc r ≡ m → suc r % m ≡ 0
  suc-last r e = rw e (mod_self m)

  -- the successor of the remainder of -(n + 2) is the remainder of -(n + 1)
  suc-below-zero : (n : ℕ) → m - suc (n % m) ≡ suc (m - suc (suc n % m)) % m
  suc-below-zero n = ⊎_elim below at (last-or-not m (n % m) (mod-lt n m>0))
    where
      below : suc (n % m) < m → m - suc (n % m) ≡ suc (m - suc (suc n % m)) % m
      below h =
          let e : suc n % m ≡ suc (n % m) = suc-mod n m ∙ mod-eq_of_lt h in
          let f : suc (m - suc (suc n % m)) ≡ m - suc (n % m) = omega arith in
          rw f (sym (mod-eq_of_lt (omega arith)))

      at : suc (n % m) ≡ m → m - suc (n % m) ≡ suc (m - suc (suc n % m)) % m
      at h =
          let e : suc n % m ≡ 0 = suc-mod n m ∙ suc-last (n % m) h in
          let f : suc (m - suc (suc n % m)) ≡ m = omega arith in
          let g : m - suc (n % m) ≡ 0 = omega arith in
          g ∙ sym (rw f (mod_self m))

  -- the remainder of a successor from the remainder
  remainder-suc : (x : ℤ) → remainder (suc_ℤ x) m ≡ suc (remainder x m) % m
  unfolding remainder
  remainder-suc (pos n) = suc-mod n m
  remainder-suc (negsuc zero) =
      zero-mod m ∙ sym (suc-last (m - suc (0 % m)) (let z : 0 % m ≡ 0 = zero-mod m in omega arith))
  remainder-suc (negsuc (suc n)) = suc-below-zero n

  -- numbers below m whose successors have one remainder are equal
  suc-injective : (a b : ℕ) → a < m → b < m → suc a % m ≡ suc b % m → a ≡ b
  suc-injective a b ha hb e = ⊎_elim
      (λ p. ⊎_elim
      (λ q. let u : suc a ≡ suc b = sym (mod-eq_of_lt p) ∙ e ∙ mod-eq_of_lt q in omega arith)
      (λ q. let u : suc a ≡ 0 = sym (mod-eq_of_lt p) ∙ e ∙ suc-last b q in omega arith)
      (last-or-not m b hb))
      (λ p. ⊎_elim
      (λ q. let u : 0 ≡ suc b = sym (suc-last a p) ∙ e ∙ mod-eq_of_lt q in omega arith)
      (λ q. omega arith)
      (last-or-not m b hb))
      (last-or-not m a ha)

  -- equal remainders stay equal one up
  suc-cong : (x y : ℤ) → remainder x m ≡ remainder y m → remainder (suc_ℤ x) m ≡ remainder (suc_ℤ y) m
  suc-cong x y e = remainder-suc x ∙ ap (λ (r : ℕ). suc r % m) e ∙ sym (remainder-suc y)

  -- and one down
  pred-cong : (x y : ℤ) → remainder x m ≡ remainder y m → remainder (pred_ℤ x) m ≡ remainder (pred_ℤ y) m
  pred-cong x y e =
      suc-injective (remainder (pred_ℤ x) m) (remainder (pred_ℤ y) m) (remainder-lt (pred_ℤ x)) (remainder-lt (pred_ℤ y))
      (sym (remainder-suc (pred_ℤ x)) ∙ ap (λ (k : ℤ). remainder k m) (suc-pred x) ∙ e
      ∙ ap (λ (k : ℤ). remainder k m) (sym (suc-pred y)) ∙ remainder-suc (pred_ℤ y))

  -- equal remainders stay equal whatever is added
  pub remainder-cong : (x y z : ℤ) → remainder x m ≡ remainder y m → remainder (x +ℤ z) m ≡ remainder (y +ℤ z) m
  remainder-cong x y (pos zero) e = rw (+ℤ_idr x, +ℤ_idr y) e
  remainder-cong x y (pos (suc n)) e =
      rw (+ℤ-suc_ℤ x (pos n), +ℤ-suc_ℤ y (pos n)) (suc-cong (x +ℤ pos n) (y +ℤ pos n) (remainder-cong x y (pos n) e))
  remainder-cong x y (negsuc zero) e =
      rw (+ℤ-pred_ℤ x (pos zero), +ℤ-pred_ℤ y (pos zero), +ℤ_idr x, +ℤ_idr y) (pred-cong x y e)
  remainder-cong x y (negsuc (suc n)) e =
      rw (+ℤ-pred_ℤ x (negsuc n), +ℤ-pred_ℤ y (negsuc n)) (pred-cong (x +ℤ negsuc n) (y +ℤ negsuc n) (remainder-cong x y (negsuc n) e))

  -- adding to a remainder is adding to the integer
  pub remainder-add : (x z : ℤ) → remainder (pos (remainder x m) +ℤ z) m ≡ remainder (x +ℤ z) m
  remainder-add x z = remainder-cong (pos (remainder x m)) x z (remainder-small (remainder x m) (remainder-lt x))

  -- the wrapping difference: the d below m with d + b ≡ a
  pub remainder-sub : (d : ℕ) (a b : ℤ) → d < m → remainder (pos d +ℤ b) m ≡ remainder a m → d ≡ remainder (a -ℤ b) m
  remainder-sub d a b h e =
      sym (remainder-small d h)
      ∙ ap (λ (k : ℤ). remainder k m) (sym (+ℤ-neg_ℤ_cancel (pos d) b))
      ∙ remainder-cong (pos d +ℤ b) a (neg_ℤ b) e

  -- equal remainders stay equal when both integers change sign
  pub remainder-neg : (a b : ℤ) → remainder a m ≡ remainder b m → remainder (neg_ℤ a) m ≡ remainder (neg_ℤ b) m
  remainder-neg a b e =
      let r : ℤ → ℕ = λ k. remainder k m in
      let zero-sum : remainder (neg_ℤ a +ℤ b) m ≡ remainder (pos 0) m =
      ap r (+ℤ_comm (neg_ℤ a) b) ∙ sym (remainder-cong a b (neg_ℤ a) e) ∙ ap r (+ℤ_invr a) in
      ap r (sym (+ℤ-neg_ℤ_cancel (neg_ℤ a) b)) ∙ remainder-cong (neg_ℤ a +ℤ b) (pos 0) (neg_ℤ b) zero-sum ∙ ap r (+ℤ_idl (neg_ℤ b))

module _ (m k : ℕ) (m>0 : 0 < m) (k>0 : 0 < k) (d : m ∣ k) where
  -- where the remainder by k of a successor has the same remainder by m, so has that of the integer
  divides-pred : (x : ℤ) → remainder (suc_ℤ x) k % m ≡ remainder (suc_ℤ x) m → remainder x k % m ≡ remainder x m
  divides-pred x h =
      suc-injective m m>0 (remainder x k % m) (remainder x m) (mod-lt (remainder x k) m>0) (remainder-lt m m>0 x)
      (sym (suc-mod (remainder x k) m) ∙ sym (mod-mod_of_dvd m (suc (remainder x k)) d)
      ∙ ap (λ (r : ℕ). r % m) (sym (remainder-suc k k>0 x)) ∙ h ∙ remainder-suc m m>0 x)

  -- the law below for an integer from 0 up
  divides-pos : (n : ℕ) → remainder (pos n) k % m ≡ remainder (pos n) m
  unfolding remainder
  divides-pos n = mod-mod_of_dvd m n d

  -- the remainder by k has the same remainder by a divisor m of k
  pub remainder-divides : (x : ℤ) → remainder x k % m ≡ remainder x m
  remainder-divides (pos n) = divides-pos n
  remainder-divides (negsuc zero) = divides-pred (negsuc zero) (divides-pos 0)
  remainder-divides (negsuc (suc n)) = divides-pred (negsuc (suc n)) (remainder-divides (negsuc n))
