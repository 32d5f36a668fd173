-- A whole line by the values of its characters. Assumes nothing.
use mathlib.Core.Path.{◌≡◌, refl, sym, ◌∙◌, ap}
use mathlib.Core.List.{List, [], ◌∷◌}
use Prim.Native.Nat.{ℕ, zero, suc, ◌+◌, ◌-◌, ◌*◌, ◌/◌, ◌%◌, ◌≤◌, ◌<◌}
use native.Mathlib.Omega.{arith}
use lib.ListN.{length, get_or, set, drop, drop_of_length-le}
use lib.Seq.{sets, drop-cons}
use Rattle.update.proofs.Stores.{sets-whole}
use Rattle.record.specs.Record.{digit_of, hex_of, digit_in, byte_in, data_at}
use Rattle.record.specs.Count.{misses, values_at, digits_of, joined}
use Rattle.record.proofs.Hex.{digit_in-lt, length-data}

pub length-values : (t : List ℕ) (p n : ℕ) → length (values_at t p n) ≡ n
unfolding values_at
length-values t p zero = refl
length-values t p (suc n) = ap suc (length-values t (p + 1) n)

pub values-lt : (t : List ℕ) (p n k : ℕ) → get_or (values_at t p n) k 0 < 16
unfolding values_at
values-lt t p zero k = omega arith
values-lt t p (suc n) zero = digit_in-lt (get_or t p 0)
values-lt t p (suc n) (suc k) = values-lt t (p + 1) n k

-- ---- the values are those of the bytes

even : (n : ℕ) → 2 * suc n ≡ suc (suc (2 * n))
even n = omega arith

pub joined-values : (t : List ℕ) (p n : ℕ) → joined (values_at t p (2 * n)) ≡ data_at t p n
unfolding values_at joined data_at byte_in
joined-values t p zero = refl
joined-values t p (suc n) =
    let e : p + 1 + 1 ≡ p + 2 = omega arith in
    rw (even n, e) (ap (λ (l : List ℕ). (digit_in (get_or t p 0) * 16 + digit_in (get_or t (p + 1) 0)) ∷ l) (joined-values t (p + 2) n))

-- the two digits of a byte by its values
two : (v w : ℕ) (vs : List ℕ) → w < 16 → digit_of ((v * 16 + w) / 16) ∷ digit_of ((v * 16 + w) % 16) ∷ vs ≡ digit_of v ∷ digit_of w ∷ vs
two v w vs h =
    let a : (v * 16 + w) / 16 ≡ v = omega arith in
    let b : (v * 16 + w) % 16 ≡ w = omega arith in
    rw (a, b) refl

pub digits-values : (t : List ℕ) (p n : ℕ) → digits_of (values_at t p (2 * n)) ≡ hex_of (data_at t p n)
unfolding values_at digits_of data_at hex_of byte_in
digits-values t p zero = refl
digits-values t p (suc n) =
    let e : p + 1 + 1 ≡ p + 2 = omega arith in
    rw (even n, e, digits-values t (p + 2) n) (sym (two (digit_in (get_or t p 0)) (digit_in (get_or t (p + 1) 0)) (hex_of (data_at t (p + 2) n)) (digit_in-lt (get_or t (p + 1) 0))))

-- ---- one more

values-next : (t : List ℕ) (p n i : ℕ) → i < n → values_at t (p + i) (n - i) ≡ digit_in (get_or t (p + i) 0) ∷ values_at t (p + (i + 1)) (n - (i + 1))
unfolding values_at
values-next t p n i h =
    let e : n - i ≡ suc (n - (i + 1)) = omega arith in
    let f : p + i + 1 ≡ p + (i + 1) = omega arith in
    rw (e, f) refl

pub value-stored : (t v : List ℕ) (p n i : ℕ) → i < n → sets (set v i (digit_in (get_or t (p + i) 0))) (i + 1) (values_at t (p + (i + 1)) (n - (i + 1))) ≡ sets v i (values_at t (p + i) (n - i))
value-stored t v p n i h = let e : i + 1 ≡ suc i = omega arith in rw (values-next t p n i h, e) refl

pub value-missed : (t : List ℕ) (p n i : ℕ) → i < n
    → misses t (p + i) (digits_of (values_at t (p + i) (n - i))) ≡ misses t (p + i) (digit_of (digit_in (get_or t (p + i) 0)) ∷ []) + misses t (p + (i + 1)) (digits_of (values_at t (p + (i + 1)) (n - (i + 1))))
unfolding misses digits_of
value-missed t p n i h = let f : p + i + 1 ≡ p + (i + 1) = omega arith in rw (values-next t p n i h, f) (omega arith)

pub values-end : (t v : List ℕ) (p n q i : ℕ) → n ≤ i → (sets v q (values_at t (p + i) (n - i)) ≡ v) × (misses t (p + i) (digits_of (values_at t (p + i) (n - i))) ≡ 0)
unfolding values_at digits_of misses
values-end t v p n q i h = let e : n - i ≡ 0 = omega arith in (rw e refl, rw e refl)

joined-next : (v : List ℕ) (i : ℕ) → 2 * i + 2 ≤ length v → joined (drop (2 * i) v) ≡ (get_or v (2 * i) 0 * 16 + get_or v (2 * i + 1) 0) ∷ joined (drop (2 * (i + 1)) v)
unfolding joined
joined-next v i h =
    let e : 2 * (i + 1) ≡ suc (suc (2 * i)) = omega arith in
    let f : 2 * i + 1 ≡ suc (2 * i) = omega arith in
    rw (drop-cons v (2 * i) 0 (omega arith), drop-cons v (suc (2 * i)) 0 (omega arith), e, f) refl

pub joined-stored : (v o : List ℕ) (to i : ℕ) → 2 * i + 2 ≤ length v
    → sets (set o (to + i) (get_or v (2 * i) 0 * 16 + get_or v (2 * i + 1) 0)) (to + (i + 1)) (joined (drop (2 * (i + 1)) v)) ≡ sets o (to + i) (joined (drop (2 * i) v))
joined-stored v o to i h = let e : to + (i + 1) ≡ suc (to + i) = omega arith in rw (joined-next v i h, e) refl

pub joined_end : (v o : List ℕ) (q i : ℕ) → length v ≤ 2 * i → sets o q (joined (drop (2 * i) v)) ≡ o
unfolding joined
joined_end v o q i h = rw (drop_of_length-le v {i = 2 * i} h) refl

-- ---- a whole line

pub line-joined : (t v o o₁ : List ℕ) (p : ℕ) → v ≡ values_at t p 64 → length o ≡ 32 → o₁ ≡ sets o 0 (joined v) → o₁ ≡ data_at t p 32
line-joined t v o o₁ p e n f =
    let d : joined v ≡ data_at t p 32 = ap joined e ∙ joined-values t p 32 in
    f ∙ ap (λ (l : List ℕ). sets o 0 l) d ∙ sets-whole o (data_at t p 32) (length-data t p 32 ∙ sym n)
