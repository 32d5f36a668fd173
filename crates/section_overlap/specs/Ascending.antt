-- Serves internal contracts only: the pass over fields in ascending order. Each is the last field again, or starts at or after its end.
use Rattle.std.specs.Prelude.{◌≡◌, ◌⊎◌, ℕ, ◌+◌, ◌≤◌, ◌<◌}
use Rattle.field_kind.specs.declared.ObjectField.{ObjectField}
use Rattle.field_kind.specs.Field.{bytes_in}
use Rattle.section_overlap.specs.Overlap.{First}

-- x has no bytes, is the last field again, or starts at or after its end
abbrev pub Follows : ObjectField → ObjectField → Type 0
Follows last x = (bytes_in x.kind ≡ 0) ⊎ (x ≡ last) ⊎ (last.offset + bytes_in last.kind ≤ x.offset)

-- no two of the first i fields overlap, and each that has bytes is last, or ends at or before its start
pub record Ascending (r : ℕ → ObjectField) (i : ℕ) (last : ObjectField) : Type 0 where
  pub none : First r i i
  pub earlier : (j : ℕ) → j < i → (bytes_in (r j).kind ≡ 0) ⊎ (r j ≡ last) ⊎ ((r j).offset + bytes_in (r j).kind ≤ last.offset)
