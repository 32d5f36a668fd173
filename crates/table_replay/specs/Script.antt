-- A list of table calls as numbers. A call begins with its kind, 0 an addition, 1 a removal, 2 a look-up, any other number a fill,
-- and its bench. After these a fill has nothing, for its module and its list are lent with the script; any other call has a file id,
-- how many bytes its name has, and these, a number each; an addition then has the address. What is cut short ends the list.
use Rattle.std.specs.Prelude.{◌≡◌, cond, List, [], ◌∷◌, ◌++◌, map, ℕ, zero, suc, ◌+◌, ◌%◌, eqb, leb, ltb, length, get_or, take, drop}
use Rattle.update.specs.Update.{Bytes}
use Rattle.address_book.specs.Book.{Key, key}
use Rattle.address_book.specs.Call.{Places, Call, add, remove, look, fill, count, list}
use Rattle.address_fill.specs.Fill.{places_at}

-- how many numbers a call of a kind has, its name's aside
unfoldable pub fixed_of : ℕ → ℕ
fixed_of kind = cond (ltb kind 3) (cond (eqb kind 0) 5 4) 2

-- how many its name has
unfoldable pub name_length : List ℕ → ℕ → ℕ
name_length s at = cond (ltb (get_or s at 0) 3) (get_or s (at + 3) 0) 0

-- where the call at a place ends, 0 where it is cut short
unfoldable pub call_end : List ℕ → ℕ → ℕ
call_end s at =
    cond (leb (at + fixed_of (get_or s at 0) + name_length s at) (length s)) (at + fixed_of (get_or s at 0) + name_length s at) 0

abbrev pub low_byte : ℕ → ℕ
low_byte x = x % 256

-- n bytes from a place, the low ones of its numbers
unfoldable pub bytes_at : List ℕ → ℕ → ℕ → List ℕ
bytes_at s at n = map low_byte (take n (drop at s))

unfoldable pub key_at : List ℕ → ℕ → Key
key_at s at = key (get_or s (at + 1) 0) (get_or s (at + 2) 0) (bytes_at s (at + 4) (name_length s at))

-- a call on one row; the address is an addition's
unfoldable pub row_call : ℕ → Key → ℕ → Call
row_call kind k a = cond (eqb kind 0) (add k a) (cond (eqb kind 1) (remove k) (look k))

-- the call at a place, where a fill is of these places with a list of this length
unfoldable pub call_at : Places → ℕ → List ℕ → ℕ → Call
call_at p given s at =
    cond (ltb (get_or s at 0) 3) (row_call (get_or s at 0) (key_at s at) (get_or s (at + 4 + name_length s at) 0)) (fill (get_or s (at + 1) 0) p given)

-- at most n calls from a place
unfoldable pub calls_from : Places → ℕ → ℕ → List ℕ → ℕ → List Call
calls_from p given zero s at = []
calls_from p given (suc n) s at = cond (eqb (call_end s at) 0) [] (call_at p given s at ∷ calls_from p given n s (call_end s at))

-- every list of numbers is a list of calls; a call takes at least two numbers, so this is all of them
unfoldable pub calls_of : Places → ℕ → List ℕ → List Call
calls_of p given s = calls_from p given (length s) s 0

-- the calls of a script that is lent with a file and a list
abbrev pub script_calls : List ℕ → List ℕ → List ℕ → List Call
script_calls file lent s = calls_of (places_at file) (length lent) s

-- ---- and back

unfoldable pub key_numbers : Key → List ℕ
key_numbers k = k.bench ∷ (k.file ∷ (length k.name ∷ k.name))

unfoldable pub call_numbers : Call → List ℕ
call_numbers (add k a) = 0 ∷ (key_numbers k ++ (a ∷ []))
call_numbers (remove k) = 1 ∷ key_numbers k
call_numbers (look k) = 2 ∷ key_numbers k
call_numbers (fill n p given) = 3 ∷ (n ∷ [])
call_numbers (count n) = []
call_numbers (list n given) = []

-- the numbers of a list of calls: calls_of gives the list back where it has these calls only
unfoldable pub encode : List Call → List ℕ
encode [] = []
encode (c ∷ cs) = call_numbers c ++ encode cs

-- a call of the request: an addition, a removal or a look-up by a name of bytes, or a fill of these places with a list of this length
abbrev pub Asked : Places → ℕ → Call → Type 0
Asked p given (add k a) = Bytes k.name
Asked p given (remove k) = Bytes k.name
Asked p given (look k) = Bytes k.name
Asked p given (fill n m l) = (m ≡ p) × (l ≡ given)
Asked p given (count n) = ⊥
Asked p given (list n l) = ⊥

abbrev pub AllAsked : Places → ℕ → List Call → Type 0
AllAsked p given [] = Unit {0}
AllAsked p given (c ∷ cs) = Asked p given c × AllAsked p given cs
