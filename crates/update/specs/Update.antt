-- Numbers put into bytes, and exact integers added to them, once for every width.
use Rattle.std.specs.Prelude.{ℕ, zero, suc, ◌+◌, ◌-◌, ◌/◌, ◌%◌, ◌^◌, ◌<◌, ◌≤◌, ◌⊎◌, List, [], ◌∷◌, ℤ, pos, negsuc, ◌+ℤ◌, slice_index}
use Rattle.std.proofs.lemmas.List.Edits.{sets}
use Rattle.word.specs.Number.{field_at}

-- the w bytes of v, the most significant first; what passes w bytes is dropped
unfoldable pub bytes_of_number : ℕ → ℕ → List ℕ
bytes_of_number zero v = []
bytes_of_number (suc w) v = v / 256 ^ w % 256 ∷ bytes_of_number w v

-- bs with the w bytes from off holding v
unfoldable pub put_field : ℕ → ℕ → ℕ → List ℕ → List ℕ
put_field w off v bs = sets bs off (bytes_of_number w v)

-- bs with f done to the number in the w bytes from off
unfoldable pub update : ℕ → ℕ → (ℕ → ℕ) → List ℕ → List ℕ
update w off f bs = put_field w off (f (field_at w off bs)) bs

-- the remainder of an exact integer, from 0 up to m
unfoldable pub remainder : ℤ → ℕ → ℕ
remainder (pos n) m = n % m
remainder (negsuc n) m = m - suc (n % m)

-- v plus the exact integer z; what passes w bytes is dropped
unfoldable pub add_in : ℕ → ℤ → ℕ → ℕ
add_in w z v = remainder (pos v +ℤ z) (256 ^ w)

-- bs with the exact integer z added to the field of w bytes from off
unfoldable pub add_field : ℕ → ℕ → ℤ → List ℕ → List ℕ
add_field w off z bs = update w off (add_in w z) bs

-- the places i .. i + n and j .. j + k share none
abbrev pub Apart : ℕ → ℕ → ℕ → ℕ → Type 0
Apart i n j k = (i + n ≤ j) ⊎ (j + k ≤ i)

-- every element is a byte
abbrev pub Bytes : List ℕ → Type 0
Bytes bs = (k : ℕ) → slice_index bs k < 256
