-- What the theorems of a salvaged file speak of.
use Rattle.std.specs.Prelude.{ℕ, ◌+◌, ◌-◌, ◌*◌, ◌/◌, ◌%◌, ◌^◌, ◌≤◌, ◌<◌, ◌≡◌, List, [], ◌∷◌}
use Rattle.word.specs.Number.{bytes_in, field_in}
use Rattle.format.specs.declared.FileRange.{FileRange}
use Rattle.format.specs.Range.{range}
use Rattle.symbol.specs.declared.Tables.{Tables}
use Rattle.symbol.specs.Entry.{entry_start}
use Rattle.shared_range.specs.Shared.{Holds}
use Rattle.mend.specs.Mend.{Change, change_start}

-- ---- the bits that changes set

-- bit b of a number, from the low end
abbrev pub bit_of : ℕ → ℕ → ℕ
bit_of n b = n / 2 ^ b % 2

-- the bytes of a change's field
abbrev pub change_range : Tables → Change → FileRange
change_range t c = range (change_start t c) (bytes_in c.mend.place.width)

-- which bit of the field bit b of byte k is, from the field's low end
abbrev pub bit_number : Tables → Change → ℕ → ℕ → ℕ
bit_number t c k b = 8 * (change_start t c + bytes_in c.mend.place.width - (k + 1)) + b

-- the change sets bit b of byte k
pub record SetsBit (t : Tables) (c : Change) (k b : ℕ) : Type 0 where
  pub held : Holds (change_range t c) k
  pub low : c.mend.low ≤ bit_number t c k b
  pub high : bit_number t c k b < c.mend.high

-- none of these does
abbrev pub Unset : Tables → ℕ → ℕ → List Change → Type 0
Unset t k b [] = Unit {0}
Unset t k b (c ∷ cs) = (SetsBit t c k b → ⊥) × Unset t k b cs

-- ---- each change is one

-- its field holds another number in the file, and the change's own in the copy
abbrev pub Sets : Tables → List ℕ → List ℕ → Change → Type 0
Sets t file copy c =
    (field_in c.mend.place (entry_start t c.index.0) file ≡ c.mend.value → ⊥) × (field_in c.mend.place (entry_start t c.index.0) copy ≡ c.mend.value)

abbrev pub EachSets : Tables → List ℕ → List ℕ → List Change → Type 0
EachSets t file copy [] = Unit {0}
EachSets t file copy (c ∷ cs) = Sets t file copy c × EachSets t file copy cs
