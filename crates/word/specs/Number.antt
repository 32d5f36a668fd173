-- Numbers in a list of bytes, the most significant byte first, once for every width.
use Rattle.std.specs.Prelude.{List, [], ◌∷◌, ℕ, ◌+◌, ◌*◌, ◌^◌, length, take, drop}
use Rattle.word.specs.declared.Width.{Width}
use Rattle.word.specs.declared.Width.TheVariants.{One, Two, Four, Eight}
use Rattle.word.specs.declared.Field.{Field}

-- the number that bytes stand for
unfoldable pub value_of : List ℕ → ℕ
value_of [] = 0
value_of (b ∷ bs) = b * 256 ^ length bs + value_of bs

-- the number in the w bytes from off
unfoldable pub field_at : ℕ → ℕ → List ℕ → ℕ
field_at w off bs = value_of (take w (drop off bs))

-- how many bytes each width is
abbrev pub bytes_in : Width → ℕ
bytes_in One = 1
bytes_in Two = 2
bytes_in Four = 4
bytes_in Eight = 8

-- a place by its offset and its width
abbrev pub field : ℕ → Width → Field
field o w = record { offset = o; width = w }

-- the number at the place f of what starts at base
abbrev pub field_in : Field → ℕ → List ℕ → ℕ
field_in f base bs = field_at (bytes_in f.width) (base + f.offset) bs
