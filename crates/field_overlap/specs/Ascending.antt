-- Serves internal contracts only: the pass over fields in ascending order. Each is the last field of its section again, or starts at or after its end.
use Rattle.std.specs.Prelude.{◌≡◌, ◌⊎◌, Bool, true, false, ℕ, ◌+◌, ◌≤◌, ◌<◌}
use Rattle.relocation.specs.declared.FieldPlace.{FieldPlace}
use Rattle.relocation.specs.Relocation.{bytes_wide}
use Rattle.field_overlap.specs.declared.Extent.{Extent}
use Rattle.field_overlap.specs.declared.LastFields.{LastFields}
use Rattle.field_overlap.specs.Overlap.{First}

abbrev pub extent_of : FieldPlace → Extent
extent_of e = record { start = e.offset; end = e.offset + bytes_wide e.wide }

-- x starts at or after the end of last, or is the same field
abbrev pub Follows : Extent → Extent → Type 0
Follows last x = (last.end ≤ x.start) ⊎ (x ≡ last)

-- each of the first i fields that is in the section t is last, or ends at or before its start
pub record LastField (r : ℕ → FieldPlace) (t : Bool) (i : ℕ) (last : Extent) : Type 0 where
  pub ordered : last.start ≤ last.end
  pub earlier : (j : ℕ) → j < i → (r j).text ≡ t → (extent_of (r j) ≡ last) ⊎ ((r j).offset + bytes_wide (r j).wide ≤ last.start)

-- no two of the first i fields overlap, and last has the last ones
pub record Ascending (r : ℕ → FieldPlace) (i : ℕ) (last : LastFields) : Type 0 where
  pub none : First r i i
  pub in_text : LastField r true i last.text
  pub in_data : LastField r false i last.«data»

-- what the last fields before an entry with the field e tell, those after it tell with that entry
abbrev pub StepOut : LastFields → FieldPlace → LastFields → Type 0
StepOut last e last' = (r : ℕ → FieldPlace) (i : ℕ) → e ≡ r i → Ascending r i last → Ascending r (i + 1) last'
