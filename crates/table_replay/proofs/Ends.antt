-- Where calls end, from the numbers of the script. Assumes nothing.
use mathlib.Core.Path.{◌≡◌, refl, sym}
use mathlib.Core.List.{List}
use Prim.Native.Nat.{ℕ, ◌+◌, ◌≤◌, ◌<◌}
use native.Mathlib.Decide.{dec_le}
use native.Mathlib.Omega.{arith}
use lib.Dec.{eqb, ltb}
use lib.ListN.{length, get_or}
use borrow.Author.Tests.{le-leb, lt-leb, lt-ltb, le-ltb}
use Rattle.address_book.proofs.Order.{cases}
use Rattle.table_replay.specs.Script.{fixed_of, name_length, call_end}

-- ---- how many numbers a call has

pub fixed-two : (k : ℕ) → 2 ≤ fixed_of k
unfolding fixed_of
fixed-two k =
    cases (ltb k 3)
    (λ t. cases (eqb k 0) (λ u. rw (t, u) (omega arith)) (λ u. rw (t, u) (omega arith)))
    (λ t. rw t (omega arith))

fixed-row : (k : ℕ) → k < 3 → 4 ≤ fixed_of k
unfolding fixed_of
fixed-row k h =
    rw (lt-ltb k 3 h)
    (cases (eqb k 0) (λ u. rw u (omega arith)) (λ u. rw u (omega arith)))

pub row-name : (s : List ℕ) (at : ℕ) → get_or s at 0 < 3 → get_or s (at + 3) 0 ≡ name_length s at
unfolding name_length
row-name s at h = rw (lt-ltb (get_or s at 0) 3 h) refl

pub no_name : (s : List ℕ) (at : ℕ) → 3 ≤ get_or s at 0 → 0 ≡ name_length s at
unfolding name_length
no_name s at h = rw (le-ltb (get_or s at 0) 3 h) refl

module _ (s : List ℕ) (at : ℕ) where
  -- ---- by what was read

  module _ {k f n : ℕ} (e : k ≡ get_or s at 0) (p : f ≡ fixed_of k) (q : n ≡ name_length s at) where
    pub call-cut : length s < at + f + n → 0 ≡ call_end s at
    unfolding call_end
    call-cut h =
        let l : length s < at + fixed_of (get_or s at 0) + name_length s at = rw (← e, ← p, ← q) h in
        rw (lt-leb (at + fixed_of (get_or s at 0) + name_length s at) (length s) l) refl

    pub call-whole : at + f + n ≤ length s → at + f + n ≡ call_end s at
    unfolding call_end
    call-whole h =
        let l : at + fixed_of (get_or s at 0) + name_length s at ≤ length s = rw (← e, ← p, ← q) h in
        rw (le-leb (at + fixed_of (get_or s at 0) + name_length s at) (length s) l, ← e, ← p, ← q) refl

  -- no call is past the last number
  pub call_none : length s ≤ at → 0 ≡ call_end s at
  call_none h =
      let two = fixed-two (get_or s at 0) in
      call-cut refl refl refl (omega arith)

  -- ---- a call that has an end

  pub call_fits : (call_end s at ≡ 0 → ⊥) → (at + fixed_of (get_or s at 0) + name_length s at ≤ length s) × (call_end s at ≡ at + fixed_of (get_or s at 0) + name_length s at)
  call_fits nz = decide (dec_le (at + fixed_of (get_or s at 0) + name_length s at) (length s))
    where
      decide : Dec (at + fixed_of (get_or s at 0) + name_length s at ≤ length s)
          → (at + fixed_of (get_or s at 0) + name_length s at ≤ length s) × (call_end s at ≡ at + fixed_of (get_or s at 0) + name_length s at)
      decide (yes a) = (a, sym (call-whole refl refl refl a))
      decide (no a) = absurd (nz (sym (call-cut refl refl refl (omega arith))))

  module _ (nz : call_end s at ≡ 0 → ⊥) where
    -- it has two numbers in the script
    pub call-inside : at + 2 ≤ length s
    call-inside =
        let f = call_fits nz in
        let two = fixed-two (get_or s at 0) in
        omega arith

    -- and ends after its start
    pub call-longer : at < call_end s at
    call-longer =
        let f = call_fits nz in
        let two = fixed-two (get_or s at 0) in
        omega arith

    -- in the script
    pub call_ends : call_end s at ≤ length s
    call_ends =
        let f = call_fits nz in
        omega arith

    -- a call on one row has its name in the script
    pub row_inside : get_or s at 0 < 3 → at + 4 + name_length s at ≤ length s
    row_inside h =
        let f = call_fits nz in
        let four = fixed-row (get_or s at 0) h in
        omega arith
