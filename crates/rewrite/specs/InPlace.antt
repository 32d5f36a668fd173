-- Serves internal contracts only: relocation entries applied where a copy of the file has the raw bytes of their sections.
use Rattle.std.specs.Prelude.{cond, List, [], ◌∷◌, ℕ, ◌+◌}
use Rattle.update.specs.Update.{add_field}
use Rattle.parts.specs.declared.Parts.{Parts}
use Rattle.relocation.specs.Relocation.{bytes_wide}
use Rattle.history.specs.declared.Relocation.{Relocation}
use Rattle.history.specs.Images.{Shifts, signed}

-- where a field is in the file
abbrev pub field_place : Parts → Relocation → ℕ
field_place p e = cond e.place.text p.text.start.0 p.«data».start.0 + e.place.offset

unfoldable pub place_entry : Parts → Relocation → Shifts → List ℕ → List ℕ
place_entry p e s bs = add_field (bytes_wide e.place.wide) (field_place p e) (signed e.minus (s e.symbol)) bs

-- each entry in order
unfoldable pub place_all : Parts → List Relocation → Shifts → List ℕ → List ℕ
place_all p [] s bs = bs
place_all p (e ∷ es) s bs = place_all p es s (place_entry p e s bs)
