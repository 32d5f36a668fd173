-- Laws of the entries of a file that are good by themselves. Assumes nothing.
use mathlib.Core.Path.{◌≡◌, ap}
use mathlib.Core.Bool.{Bool, true, false, cond}
use mathlib.Core.List.{List}
use Prim.Native.Nat.{ℕ, ◌+◌, ◌≤◌, ◌<◌}
use native.Mathlib.Omega.{arith}
use Rattle.format.specs.declared.Format.{Format}
use Rattle.parts.specs.declared.Parts.{Parts}
use Rattle.loader_header.specs.declared.LoaderTables.{LoaderTables}
use Rattle.relocation.specs.declared.FieldPlace.{FieldPlace}
use Rattle.relocation.specs.Relocation.{bytes_wide, place_at}
use Rattle.field_overlap.specs.Overlap.{Readable}

-- the bytes of the section that a field is in
abbrev pub size_of : Parts → Bool → ℕ
size_of p text = cond text p.text.size p.«data».size

module _ (file : List ℕ) (f : Format) (p : Parts) (t : LoaderTables) where
  pub room : (n i : ℕ) → Readable file f p t n → i < n
      → (place_at file f p t i).offset + bytes_wide (place_at file f p t i).wide ≤ size_of p (place_at file f p t i).text
  room n i v l = (v.inside i l).inside

  size_small : (n : ℕ) → Readable file f p t n → (text : Bool) → size_of p text ≤ 16777216
  size_small n v true = v.text_size
  size_small n v false = v.data_size

  pub offset-small : (n i : ℕ) (e : FieldPlace) → Readable file f p t n → i < n → e ≡ place_at file f p t i → e.offset ≤ 16777216
  offset-small n i e v l q =
      omega (arith, room n i v l, size_small n v (place_at file f p t i).text, ap (λ (x : FieldPlace). x.offset) q)
