-- The table's memory and its book. Assumes nothing.
use mathlib.Core.Path.{◌≡◌, refl, sym, ◌∙◌, ap}
use mathlib.Core.List.{List}
use Prim.Native.Nat.{ℕ, suc, ◌+◌, ◌-◌, ◌*◌, ◌≤◌, ◌<◌}
use native.Mathlib.Nat.{add-zero, zero-add}
use native.Mathlib.Numerals.{add-one}
use native.Mathlib.Omega.{arith}
use borrow.Author.Tests.{ltb-true, ltb-false}
use lib.Dec.{ltb}
use lib.ListN.{length, get_or}
use lib.Seq.{get_or-set_same, get_or-set_other}
use Rattle.address_book.specs.Book.{Key, row, none, at, same_key, find, put, delete, sorted}
use Rattle.address_book.specs.Call.{name_numbers}
use Rattle.address_book.proofs.Order.{cases}
use Rattle.address_book.proofs.Laws.{find-sorted, length-sorted, add_to, put-sorted, delete-sorted}
use Rattle.sheet.specs.Sheet.{numbers_from}
use Rattle.address_row.specs.Words.{key_words, key_in, parts_of}
use Rattle.address_table.proofs.Match.{seven-of}
use Rattle.address_row.proofs.Words.{Good, key_in_lem, found-by-words}
use Rattle.address_table.specs.Table.{taken_in, key_words_at, row_at, rows_by, rows_in, book_of, has_words, place_of, with_address, with_row, without_row}
use Rattle.address_table.proofs.Steps.{Written, Closed, written, closed}
use Rattle.address_table.proofs.Rows.{length-rows, find-no, find-yes, put-there, put-new, delete-there}

-- ---- how many rows are taken

pub taken-few : (m : List ℕ) → taken_in m ≤ 512
unfolding taken_in
taken-few m =
    cases (ltb (get_or m 4096 0) 512)
    (λ t. rw t (omega (arith, ltb-true (get_or m 4096 0) 512 t)))
    (λ t. rw t (omega arith))

taken_is : (m : List ℕ) (n : ℕ) → get_or m 4096 0 ≡ n → n ≤ 512 → taken_in m ≡ n
unfolding taken_in
taken_is m n e h =
    rw e
    (cases (ltb n 512)
    (λ t. rw t refl)
    (λ t. rw t (omega (arith, ltb-false n 512 t))))

pub length-book : (m : List ℕ) → length (book_of m) ≡ taken_in m
unfolding book_of rows_in
length-book m = length-sorted (rows_by (row_at m) 0 (taken_in m)) ∙ length-rows (row_at m) 0 (taken_in m)

-- ---- rows

-- rows with the same eight numbers
row-agree : (m o : List ℕ) (i j : ℕ) → ((d : ℕ) → d < 8 → get_or o (i * 8 + d) 0 ≡ get_or m (j * 8 + d) 0) → row_at o i ≡ row_at m j
unfolding row_at key_words_at
row-agree m o i j h =
    let z : get_or o (i * 8) 0 ≡ get_or m (j * 8) 0 = simp add-zero at (h 0 (omega arith)) in
    rw (z, h 1 (omega arith), h 2 (omega arith), h 3 (omega arith), h 4 (omega arith), h 5 (omega arith), h 6 (omega arith), h 7 (omega arith)) refl

-- the rows with a good key's words are the rows with that key
tells : (k : Key) → Good k → (m : List ℕ) (j : ℕ) → has_words (key_words k) m j ≡ same_key k (row_at m j).row_key
unfolding has_words row_at
tells k g m j = sym (found-by-words k (key_words_at m (j * 8)) g)

-- a row with another address
row-address : (m o : List ℕ) (i a : ℕ) → ((d : ℕ) → d < 7 → get_or o (i * 8 + d) 0 ≡ get_or m (i * 8 + d) 0) → get_or o (i * 8 + 7) 0 ≡ a → row_at o i ≡ row (row_at m i).row_key a
unfolding row_at key_words_at
row-address m o i a h e =
    let z : get_or o (i * 8) 0 ≡ get_or m (i * 8) 0 = simp add-zero at (h 0 (omega arith)) in
    rw (z, h 1 (omega arith), h 2 (omega arith), h 3 (omega arith), h 4 (omega arith), h 5 (omega arith), h 6 (omega arith), e) refl

seven-words : (k : Key) → length (key_words k) ≡ 7
unfolding key_words parts_of name_numbers numbers_from
seven-words k = refl

-- a row with the words of a good key
row_new : (k : Key) → Good k → (o : List ℕ) (n a : ℕ) → ((d : ℕ) → d < 7 → get_or o (n * 8 + d) 0 ≡ get_or (key_words k) d 0) → get_or o (n * 8 + 7) 0 ≡ a → row_at o n ≡ row k a
unfolding row_at key_words_at
row_new k g o n a h e =
    let z : get_or o (n * 8) 0 ≡ get_or (key_words k) 0 0 = simp add-zero at (h 0 (omega arith)) in
    let whole = sym (seven-of (key_words k) (seven-words k)) in
    rw (z, h 1 (omega arith), h 2 (omega arith), h 3 (omega arith), h 4 (omega arith), h 5 (omega arith), h 6 (omega arith), e)
    (ap (λ (x : Key). row x a) (ap key_in whole ∙ key_in_lem k g))

taken-same : (m o : List ℕ) → get_or o 4096 0 ≡ get_or m 4096 0 → taken_in o ≡ taken_in m
unfolding taken_in
taken-same m o e = rw e refl

-- ---- what is found

module _ (k : Key) (g : Good k) (m : List ℕ) where
  pub look_none : taken_in m ≤ place_of (key_words k) m 0 (taken_in m) → find (book_of m) k ≡ none
  unfolding book_of rows_in
  look_none h = find-sorted (rows_in m) k ∙ find-no k (row_at m) (has_words (key_words k) m) (tells k g m) 0 (taken_in m) (omega arith)

  pub look-found : place_of (key_words k) m 0 (taken_in m) < taken_in m → find (book_of m) k ≡ at (get_or m (place_of (key_words k) m 0 (taken_in m) * 8 + 7) 0)
  unfolding book_of rows_in row_at
  look-found h = find-sorted (rows_in m) k ∙ find-yes k (row_at m) (has_words (key_words k) m) (tells k g m) 0 (taken_in m) (omega arith)

  -- ---- what a step leaves

  -- the address of the row that is there
  put-address : {o : List ℕ} (a : ℕ) → length m ≡ 4097 → place_of (key_words k) m 0 (taken_in m) < taken_in m → o ≡ with_address m (place_of (key_words k) m 0 (taken_in m)) a → rows_in o ≡ add_to k a (rows_in m)
  unfolding rows_in with_address
  put-address {o} a size h e =
      let p = place_of (key_words k) m 0 (taken_in m) in
      let few = taken-few m in
      let other : (j : ℕ) → (j ≡ p * 8 + 7 → ⊥) → get_or o j 0 ≡ get_or m j 0 = λ j x. rw e (get_or-set_other m (p * 8 + 7) j a 0 x) in
      let here : get_or o (p * 8 + 7) 0 ≡ a = rw e (get_or-set_same m (p * 8 + 7) a 0 (omega arith)) in
      let count : taken_in o ≡ taken_in m = taken-same m o (other 4096 (λ x. omega arith)) in
      rw count
      (put-there k (row_at m) (has_words (key_words k) m) (tells k g m) (row_at o) a 0 (taken_in m) (omega arith)
      (row-address m o p a (λ d l. other (p * 8 + d) (λ x. omega arith)) here)
      (λ j x. row-agree m o j j (λ d l. other (j * 8 + d) (λ y. x (omega arith)))))

  -- a new row
  put-row : {o : List ℕ} (a : ℕ) → taken_in m < 512 → taken_in m ≤ place_of (key_words k) m 0 (taken_in m) → Written m o (taken_in m) (key_words k) a → rows_in o ≡ add_to k a (rows_in m)
  unfolding rows_in
  put-row {o} a few h w =
      let n = taken_in m in
      let count : taken_in o ≡ suc n = taken_is o (suc n) (w.count ∙ add-one n) (omega arith) in
      rw count
      (put-new k (row_at m) (has_words (key_words k) m) (tells k g m) (row_at o) a 0 n (omega arith)
      (rw (zero-add n) (row_new k g o n a w.words w.address))
      (λ j l. row-agree m o j j (λ d x. w.front (j * 8 + d) (omega arith))))

  -- a row taken out
  delete-row : {o : List ℕ} → place_of (key_words k) m 0 (taken_in m) < taken_in m → Closed m o (place_of (key_words k) m 0 (taken_in m)) (taken_in m) → rows_in o ≡ delete k (rows_in m)
  unfolding rows_in
  delete-row {o} h w =
      let few = taken-few m in
      let left : taken_in m ≡ suc (taken_in m - 1) = omega arith in
      let count : taken_in o ≡ taken_in m - 1 = taken_is o (taken_in m - 1) w.count (omega arith) in
      rw count (delete-rows (taken_in m - 1) left h w)
    where
      delete-rows : {o : List ℕ} (n : ℕ) → taken_in m ≡ suc n → place_of (key_words k) m 0 (taken_in m) < taken_in m → Closed m o (place_of (key_words k) m 0 (taken_in m)) (taken_in m) → rows_by (row_at o) 0 n ≡ delete k (rows_by (row_at m) 0 (taken_in m))
      delete-rows {o} n e h w =
          let q : place_of (key_words k) m 0 (taken_in m) ≡ place_of (key_words k) m 0 (suc n) = ap (place_of (key_words k) m 0) e in
          let p = place_of (key_words k) m 0 (suc n) in
          rw e
          (delete-there k (row_at m) (has_words (key_words k) m) (tells k g m) (row_at o) 0 n (omega (arith, q))
          (λ j l. row-agree m o j j (λ d x. w.front (j * 8 + d) (omega (arith, q))))
          (λ j l r. row-agree m o j (suc j) (λ d x. let s : suc j * 8 + d ≡ j * 8 + d + 8 = omega arith in rw s (w.moved (j * 8 + d) (omega (arith, q)) (omega (arith, q))))))

  -- ---- what a step leaves in the book

  pub book-address : (a : ℕ) → length m ≡ 4097 → place_of (key_words k) m 0 (taken_in m) < taken_in m → book_of (with_address m (place_of (key_words k) m 0 (taken_in m)) a) ≡ put k a (book_of m)
  unfolding book_of
  book-address a size h = ap sorted (put-address a size h refl) ∙ put-sorted k a (rows_in m)

  pub book-row : (a : ℕ) → length m ≡ 4097 → taken_in m < 512 → taken_in m ≤ place_of (key_words k) m 0 (taken_in m) → book_of (with_row m (taken_in m) (key_words k) a) ≡ put k a (book_of m)
  unfolding book_of
  book-row a size few h = ap sorted (put-row a few h (written m (key_words k) (taken_in m) a few size (seven-words k))) ∙ put-sorted k a (rows_in m)

  pub book-without : length m ≡ 4097 → place_of (key_words k) m 0 (taken_in m) < taken_in m → book_of (without_row m (place_of (key_words k) m 0 (taken_in m)) (taken_in m)) ≡ delete k (book_of m)
  unfolding book_of
  book-without size h =
      ap sorted (delete-row h (closed m (place_of (key_words k) m 0 (taken_in m)) (taken_in m) size h (taken-few m))) ∙ delete-sorted k (rows_in m)
