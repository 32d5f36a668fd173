-- Laws of rows: their length, and the loop that writes them. Assumes nothing.
use mathlib.Core.Path.{◌≡◌, refl, sym, ◌∙◌, ap}
use mathlib.Core.Bool.{not}
use mathlib.Core.List.{List, ◌++◌, append_assoc}
use Prim.Native.Nat.{ℕ, zero, suc, ◌+◌, ◌-◌, ◌*◌, ◌<◌, ◌≤◌}
use native.Mathlib.Nat.{sub-zero, zero-mul}
use native.Mathlib.Numerals.{add-one}
use native.Mathlib.Omega.{arith}
use borrow.Author.Tests.{eqb-true, not-false}
use lib.Dec.{eqb}
use lib.ListN.{length, length-append}
use lib.Seq.{sets, length-sets}
use Rattle.refusal.proofs.Order.{accepted-test}
use Rattle.update.proofs.Stores.{sets-append, sets-whole}
use Rattle.rows.specs.Rows.{rows_of, room_check}
use Rattle.std.specs.Prelude.{Ok}

-- memory that is accepted has exactly the room
pub room-exact : (given needed : ℕ) → room_check given needed ≡ Ok tt → given ≡ needed
unfolding room_check
room-exact given needed e = eqb-true given needed (not-false (eqb given needed) (accepted-test (not (eqb given needed)) _ e))

-- ---- many rows

-- i of n rows are written into l₀, and l is what it holds: with the rest of them it holds what all of them leave in l₀
pub record Writing (row : ℕ → List ℕ) (w n : ℕ) (l₀ l : List ℕ) (i : ℕ) : Type 0 where
  pub within : i ≤ n
  pub same : length l ≡ length l₀
  pub left : sets l (i * w) (rows_of row i (n - i)) ≡ sets l₀ 0 (rows_of row 0 n)

-- rows of w numbers each
module _ (row : ℕ → List ℕ) (w : ℕ) (even : (j : ℕ) → length (row j) ≡ w) where
  pub length-rows : (n i : ℕ) → length (rows_of row i n) ≡ w * n
  unfolding rows_of
  length-rows zero i = omega arith
  length-rows (suc n) i = rw (length-append (row i) (rows_of row (suc i) n), even i, length-rows n (suc i)) (omega arith)

  -- row i is written at i * w, and the rows behind it are left
  next_row : (l : List ℕ) (n i : ℕ) → i < n → sets (sets l (i * w) (row i)) ((i + 1) * w) (rows_of row (i + 1) (n - (i + 1))) ≡ sets l (i * w) (rows_of row i (n - i))
  unfolding rows_of
  next_row l n i h =
      let left : n - i ≡ suc (n - (i + 1)) = omega arith in
      let place : (i + 1) * w ≡ i * w + length (row i) = rw (even i) (omega arith) in
      rw (left, place, add-one i) (sym (sets-append l (i * w) (row i) (rows_of row (suc i) (n - suc i))))

  -- the loop over the rows: its start, a turn, its end
  pub writing_start : (l : List ℕ) (n : ℕ) → Writing row w n l l 0
  writing_start l n = record { within = omega arith; same = refl; left = rw (sub-zero n, zero-mul w) refl }

  pub writing-next : {l₀ out r : List ℕ} (l : List ℕ) (n i : ℕ) → i < n → r ≡ row i → out ≡ sets l (i * w) r → Writing row w n l₀ l i → Writing row w n l₀ out (i + 1)
  writing-next l n i h q e k =
      record {
        within = omega arith;
        same = rw (e, q) (length-sets l (i * w) (row i) ∙ k.same);
        left = rw (e, q) (next_row l n i h ∙ k.left);
      }

  pub writing-end : {l : List ℕ} (l₀ : List ℕ) (n i : ℕ) → n ≤ i → length l₀ ≡ w * n → Writing row w n l₀ l i → l ≡ rows_of row 0 n
  unfolding rows_of
  writing-end {l} l₀ n i h e k =
      let none : n - i ≡ 0 = omega arith in
      sym (ap (λ (m : ℕ). sets l (i * w) (rows_of row i m)) none) ∙ k.left ∙ sets-whole l₀ (rows_of row 0 n) (length-rows n 0 ∙ sym e)

-- rows that are the same one by one
pub rows_same : (f g : ℕ → List ℕ) (n i : ℕ) → ((j : ℕ) → i ≤ j → j < i + n → f j ≡ g j) → rows_of f i n ≡ rows_of g i n
unfolding rows_of
rows_same f g zero i h = refl
rows_same f g (suc n) i h = rw (h i (omega arith) (omega arith), rows_same f g n (suc i) (λ j a b. h j (omega arith) (omega arith))) refl

-- three rows that stand behind one another are one
pub rows-three : (row : ℕ → List ℕ) (n i : ℕ) → rows_of row (3 * i) (3 * n) ≡ rows_of (λ k. row (3 * k) ++ (row (3 * k + 1) ++ row (3 * k + 2))) i n
unfolding rows_of
rows-three row zero i = refl
rows-three row (suc n) i =
    let count : 3 * suc n ≡ suc (suc (suc (3 * n))) = omega arith in
    let second : suc (3 * i) ≡ 3 * i + 1 = omega arith in
    let third : suc (3 * i + 1) ≡ 3 * i + 2 = omega arith in
    let next : suc (3 * i + 2) ≡ 3 * suc i = omega arith in
    rw (count, second, third, next, rows-three row n (suc i)) (sym (append_assoc (row (3 * i)) _ _ ∙ ap (λ (x : List ℕ). row (3 * i) ++ x) (append_assoc (row (3 * i + 1)) (row (3 * i + 2)) _)))
