-- Rows in the order of their places, and the first that has a key. Assumes nothing.
use mathlib.Core.Path.{◌≡◌, refl, sym, ◌∙◌, ap}
use mathlib.Core.Bool.{Bool, true, false}
use mathlib.Core.List.{List, ◌∷◌}
use Prim.Native.Nat.{ℕ, zero, suc, ◌+◌, ◌-◌, ◌≤◌, ◌<◌}
use native.Mathlib.Nat.{sub-zero, add-zero}
use native.Mathlib.Numerals.{add-one}
use native.Mathlib.Omega.{arith}
use lib.ListN.{length}
use Rattle.address_book.specs.Book.{Key, Row, row, none, at, same_key, find, delete}
use Rattle.address_book.proofs.Order.{cases, same_key_lem}
use Rattle.address_book.proofs.Laws.{add_to}
use Rattle.address_table.specs.Table.{rows_by, first_by}

-- ---- the first place that passes a test

module _ (t : ℕ → Bool) where
  pub first-least : (i n : ℕ) → i ≤ first_by t i n
  unfolding first_by
  first-least i zero = omega arith
  first-least i (suc n) =
      cases (t i)
      (λ e. rw e (omega arith))
      (λ e. rw e (omega (arith, first-least (suc i) n)))

  pub first-most : (i n : ℕ) → first_by t i n ≤ i + n
  unfolding first_by
  first-most i zero = omega arith
  first-most i (suc n) =
      cases (t i)
      (λ e. rw e (omega arith))
      (λ e. rw e (omega (arith, first-most (suc i) n)))

  -- the loop: its start, a turn, a place found, its end
  pub first-start : (n : ℕ) → first_by t 0 n ≡ first_by t 0 (n - 0)
  first-start n = rw (sub-zero n) refl

  pub first-turn : (n i : ℕ) → i < n → t i ≡ false → first_by t i (n - i) ≡ first_by t (i + 1) (n - (i + 1))
  unfolding first_by
  first-turn n i h e = let left : n - i ≡ suc (n - (i + 1)) = omega arith in rw (left, e, add-one i) refl

  pub first_found : (n i : ℕ) → i < n → t i ≡ true → first_by t i (n - i) ≡ i
  unfolding first_by
  first_found n i h e = let left : n - i ≡ suc (n - (i + 1)) = omega arith in rw (left, e) refl

  pub first-end : (n i : ℕ) → n ≤ i → first_by t i (n - i) ≡ i
  unfolding first_by
  first-end n i h = let left : n - i ≡ 0 = omega arith in rw left refl

-- ---- the rows

pub length-rows : (line : ℕ → Row) (i n : ℕ) → length (rows_by line i n) ≡ n
unfolding rows_by
length-rows line i zero = refl
length-rows line i (suc n) = ap suc (length-rows line (suc i) n)

-- rows that are the same one by one, perhaps some places further on
pub rows_same : (f g : ℕ → Row) (i j n : ℕ) → ((d : ℕ) → d < n → f (i + d) ≡ g (j + d)) → rows_by f i n ≡ rows_by g j n
unfolding rows_by
rows_same f g i j zero h = refl
rows_same f g i j (suc n) h =
    let first : f i ≡ g j = simp add-zero at (h 0 (omega arith)) in
    let rest : (d : ℕ) → d < n → f (suc i + d) ≡ g (suc j + d) =
    λ d l.
    let x : suc i + d ≡ i + suc d = omega arith in
    let y : suc j + d ≡ j + suc d = omega arith in
    rw (x, y) (h (suc d) (omega arith)) in
    rw (first, rows_same f g (suc i) (suc j) n rest) refl

-- t tells which rows have the key k
module _ (k : Key) (line : ℕ → Row) (t : ℕ → Bool) (tells : (j : ℕ) → t j ≡ same_key k (line j).row_key) where
  -- no row has it
  pub find-no : (i n : ℕ) → i + n ≤ first_by t i n → find (rows_by line i n) k ≡ none
  unfolding find rows_by first_by
  find-no i zero h = refl
  find-no i (suc n) h =
      cases (t i)
      (λ e. let x : i + suc n ≤ i = rw e at h in absurd (omega arith))
      (λ e.
      let x : i + suc n ≤ first_by t (suc i) n = rw e at h in
      rw (← tells i, e) (find-no (suc i) n (omega arith)))

  -- the first has its address
  pub find-yes : (i n : ℕ) → first_by t i n < i + n → find (rows_by line i n) k ≡ at (line (first_by t i n)).address
  unfolding find rows_by first_by
  find-yes i zero h = absurd (omega arith)
  find-yes i (suc n) h =
      cases (t i)
      (λ e. rw (← tells i, e) refl)
      (λ e.
      let x : first_by t (suc i) n < i + suc n = rw e at h in
      rw (← tells i, e) (find-yes (suc i) n (omega arith)))

  -- another address for it
  pub put-there : (other : ℕ → Row) (a i n : ℕ) → first_by t i n < i + n → other (first_by t i n) ≡ row (line (first_by t i n)).row_key a → ((j : ℕ) → (j ≡ first_by t i n → ⊥) → other j ≡ line j) → rows_by other i n ≡ add_to k a (rows_by line i n)
  unfolding add_to rows_by first_by
  put-there other a i zero h r s = absurd (omega arith)
  put-there other a i (suc n) h r s =
      cases (t i)
      (λ e.
      let same : k ≡ (line i).row_key = same_key_lem k (line i).row_key (sym (tells i) ∙ e) in
      let r' : other i ≡ row k a = rw e at r ∙ ap (λ (l : Key). row l a) (sym same) in
      let rest : rows_by other (suc i) n ≡ rows_by line (suc i) n = rows_same other line (suc i) (suc i) n (λ d l. s (suc i + d) (λ x. let y : suc i + d ≡ i = rw e at x in omega arith)) in
      rw (← tells i, e, r', rest) refl)
      (λ e.
      let p = first_by t (suc i) n in
      let least = first-least t (suc i) n in
      let x : p < i + suc n = rw e at h in
      let r' : other p ≡ row (line p).row_key a = rw e at r in
      let s' : (j : ℕ) → (j ≡ p → ⊥) → other j ≡ line j = rw e at s in
      let first : other i ≡ line i = s' i (λ y. omega arith) in
      rw (← tells i, e, first, put-there other a (suc i) n (omega arith) r' s') refl)

  -- a new row for it
  pub put-new : (other : ℕ → Row) (a i n : ℕ) → i + n ≤ first_by t i n → other (i + n) ≡ row k a → ((j : ℕ) → j < i + n → other j ≡ line j) → rows_by other i (suc n) ≡ add_to k a (rows_by line i n)
  unfolding add_to rows_by first_by
  put-new other a i zero h r s =
      let r' : other i ≡ row k a = rw (add-zero i) at r in
      rw (r') refl
  put-new other a i (suc n) h r s =
      cases (t i)
      (λ e. let x : i + suc n ≤ i = rw e at h in absurd (omega arith))
      (λ e.
      let x : i + suc n ≤ first_by t (suc i) n = rw e at h in
      let first : other i ≡ line i = s i (omega arith) in
      let place : i + suc n ≡ suc i + n = omega arith in
      let r' : other (suc i + n) ≡ row k a = rw place at r in
      rw (← tells i, e, first) (ap (λ (b : List Row). line i ∷ b) (put-new other a (suc i) n (omega arith) r' (λ j l. s j (omega arith)))))

  -- its row taken out
  pub delete-there : (other : ℕ → Row) (i n : ℕ) → first_by t i (suc n) < i + suc n → ((j : ℕ) → j < first_by t i (suc n) → other j ≡ line j) → ((j : ℕ) → first_by t i (suc n) ≤ j → j < i + n → other j ≡ line (suc j)) → rows_by other i n ≡ delete k (rows_by line i (suc n))
  unfolding delete rows_by first_by
  delete-there other i zero h r s =
      cases (t i)
      (λ e. rw (← tells i, e) refl)
      (λ e. let x : suc i < i + 1 = rw e at h in absurd (omega arith))
  delete-there other i (suc n) h r s =
      cases (t i)
      (λ e.
      let s' : (j : ℕ) → i ≤ j → j < i + suc n → other j ≡ line (suc j) = rw e at s in
      let rest : rows_by other i (suc n) ≡ rows_by line (suc i) (suc n) =
      rows_same other line i (suc i) (suc n)
      (λ d l. let x : suc i + d ≡ suc (i + d) = omega arith in rw x (s' (i + d) (omega arith) (omega arith))) in
      rw (← tells i, e) rest)
      (λ e.
      let p = first_by t (suc i) (suc n) in
      let least = first-least t (suc i) (suc n) in
      let x : p < i + suc (suc n) = rw e at h in
      let r' : (j : ℕ) → j < p → other j ≡ line j = rw e at r in
      let s' : (j : ℕ) → p ≤ j → j < i + suc n → other j ≡ line (suc j) = rw e at s in
      let first : other i ≡ line i = r' i (omega arith) in
      rw (← tells i, e, first)
      (ap (λ (b : List Row). line i ∷ b) (delete-there other (suc i) n (omega arith) r' (λ j a b. s' j a (omega arith)))))
