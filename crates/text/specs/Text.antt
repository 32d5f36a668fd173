-- Numbers as text, in bytes: decimal, and hex of a fixed width.
use Rattle.std.specs.Prelude.{ℕ, zero, suc, ◌+◌, ◌/◌, ◌%◌, ◌^◌, cond, List, [], ◌∷◌, ltb}

-- the character of a digit: 0 to 9, then a to f
unfoldable pub digit_of : ℕ → ℕ
digit_of d = cond (ltb d 10) (48 + d) (87 + d)

-- the last k digits of v in the base b, the most significant first
unfoldable pub digits : ℕ → ℕ → ℕ → List ℕ
digits b zero v = []
digits b (suc k) v = digit_of (v / b ^ k % b) ∷ digits b k v

-- how many decimal digits v has, found in at most n divisions
unfoldable pub places_in : ℕ → ℕ → ℕ
places_in zero v = 1
places_in (suc n) v = cond (ltb v 10) 1 (suc (places_in n (v / 10)))

-- v divisions are always enough
unfoldable pub places : ℕ → ℕ
places v = places_in v v

-- v in decimal, without leading zeros
unfoldable pub decimal : ℕ → List ℕ
decimal v = digits 10 (places v) v

-- v in k hex digits
unfoldable pub hex : ℕ → ℕ → List ℕ
hex k v = digits 16 k v
