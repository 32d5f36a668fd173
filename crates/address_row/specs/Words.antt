-- A row's key as seven numbers below 2^64, and any seven numbers as a key.
use Rattle.std.specs.Prelude.{ℕ, ◌+◌, ◌*◌, ◌/◌, ◌%◌, ◌^◌, cond, List, [], ◌∷◌, length, take, drop, slice_index}
use Rattle.refusal.specs.Order.{if_accepted}
use Rattle.sheet.specs.Sheet.{address_bytes}
use Rattle.address_book.specs.Book.{Key, key, same_list}
use Rattle.address_book.specs.Call.{key_check, name_numbers}

-- the sum; what passes 64 bits is dropped
unfoldable pub sum_of : List ℕ → ℕ
sum_of [] = 0
sum_of (w ∷ []) = w
sum_of (w ∷ (v ∷ ws)) = (w + sum_of (v ∷ ws)) % 2 ^ 64

-- the bench and the name's length in one number, the file id, and the name in four
unfoldable pub parts_of : Key → List ℕ
parts_of k = (k.bench * 64 + length k.name) ∷ (k.file ∷ name_numbers k.name)

-- the words of a key: the sum of the others first, by which most rows are passed over
unfoldable pub key_words : Key → List ℕ
key_words k = sum_of (parts_of k) ∷ parts_of k

-- the key that seven words say
unfoldable pub said : List ℕ → Key
said ws = key (slice_index ws 1 / 64) (slice_index ws 2) (take (slice_index ws 1 % 64) (address_bytes (drop 3 ws)))

-- bench 0 is nobody's
abbrev pub no_key : Key
no_key = key 0 0 []

-- the key of a row with these words: the one that they say where it has these words and a call can name it, else none
unfoldable pub key_in : List ℕ → Key
key_in ws = cond (same_list (key_words (said ws)) ws) (if_accepted (key_check (said ws)) (said ws) no_key) no_key
