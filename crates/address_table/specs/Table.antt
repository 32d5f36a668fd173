-- The address table's memory: up to 512 rows of eight numbers, one behind the other, and in the last number how many are taken.
-- Any contents are rows, and zeros are the empty table.
use Rattle.std.specs.Prelude.{Bool, cond, List, [], ◌∷◌, ◌++◌, ℕ, zero, suc, ◌+◌, ◌-◌, ◌*◌, ltb, get_or, set, take, drop, replicate}
use Rattle.std.proofs.lemmas.List.Edits.{sets}
use Rattle.refusal.specs.Order.{if_accepted}
use Rattle.address_book.specs.Book.{Key, Row, row, Book, same_list, sorted}
use Rattle.address_book.specs.Call.{Call, add, remove, look, fill, count, list, row_limit, check_of}
use Rattle.address_row.specs.Words.{key_words, key_in}

-- how many rows are taken: the last number, and never more than 512
unfoldable pub taken_in : List ℕ → ℕ
taken_in m = cond (ltb (get_or m 4096 0) row_limit) (get_or m 4096 0) row_limit

-- seven numbers from a place on
unfoldable pub key_words_at : List ℕ → ℕ → List ℕ
key_words_at m at =
    get_or m at 0 ∷ (get_or m (at + 1) 0 ∷ (get_or m (at + 2) 0 ∷ (get_or m (at + 3) 0 ∷ (get_or m (at + 4) 0 ∷ (get_or m (at + 5) 0 ∷ (get_or m (at + 6) 0 ∷ []))))))

-- row i: seven numbers of the key, and the address
unfoldable pub row_at : List ℕ → ℕ → Row
row_at m i = row (key_in (key_words_at m (i * 8))) (get_or m (i * 8 + 7) 0)

-- n rows from the i-th on
unfoldable pub rows_by : (ℕ → Row) → ℕ → ℕ → List Row
rows_by at i zero = []
rows_by at i (suc n) = at i ∷ rows_by at (suc i) n

-- the rows as they lie
unfoldable pub rows_in : List ℕ → List Row
rows_in m = rows_by (row_at m) 0 (taken_in m)

-- the book that any contents are
unfoldable pub book_of : List ℕ → Book
book_of m = sorted (rows_in m)

-- the empty table
abbrev pub empty_table : List ℕ
empty_table = replicate 4097 0

-- ---- what a call leaves in the memory

-- the first of n places from i on that passes a test, or the one after them
unfoldable pub first_by : (ℕ → Bool) → ℕ → ℕ → ℕ
first_by t i zero = i
first_by t i (suc n) = cond (t i) i (first_by t (suc i) n)

-- row i has these key words
unfoldable pub has_words : List ℕ → List ℕ → ℕ → Bool
has_words ws m i = same_list ws (key_words_at m (i * 8))

-- where a key's row lies; as many as are taken where it has none
abbrev pub place_of : List ℕ → List ℕ → ℕ → ℕ → ℕ
place_of ws m i n = first_by (has_words ws m) i n

abbrev pub place_in : List ℕ → Key → ℕ
place_in m k = place_of (key_words k) m 0 (taken_in m)

-- row p with another address
unfoldable pub with_address : List ℕ → ℕ → ℕ → List ℕ
with_address m p a = set m (p * 8 + 7) a

-- n rows and one more behind them
unfoldable pub with_row : List ℕ → ℕ → List ℕ → ℕ → List ℕ
with_row m n ws a = set (sets m (n * 8) (ws ++ (a ∷ []))) 4096 (n + 1)

-- n rows without row p: the rows behind it move up, and what was the last one's place is cleared
unfoldable pub without_row : List ℕ → ℕ → ℕ → List ℕ
without_row m p n =
    set (sets m (p * 8) (take (n * 8 - 8 - p * 8) (drop (p * 8 + 8) m) ++ replicate 8 0)) 4096 (n - 1)

unfoldable pub contents_applied : Call → List ℕ → List ℕ
contents_applied (add k a) m =
    cond (ltb (place_in m k) (taken_in m)) (with_address m (place_in m k) a) (with_row m (taken_in m) (key_words k) a)
contents_applied (remove k) m = without_row m (place_in m k) (taken_in m)
contents_applied (look k) m = m
contents_applied (fill n p given) m = m
contents_applied (count n) m = m
contents_applied (list n given) m = m

-- a refused call changes nothing
unfoldable pub contents_after : List ℕ → Call → List ℕ
contents_after m c = if_accepted (check_of (book_of m) c) (contents_applied c m) m
