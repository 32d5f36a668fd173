-- Laws of the entries of a section that are good by themselves. Assumes nothing.
use mathlib.Core.Path.{◌≡◌, refl, ap}
use mathlib.Core.Bool.{true}
use mathlib.Core.List.{List}
use Prim.Native.Nat.{ℕ, ◌+◌, ◌≤◌, ◌<◌}
use native.Mathlib.Omega.{arith}
use Rattle.format.specs.declared.Format.{Format}
use Rattle.field_kind.specs.declared.FieldKind.{FieldKind}
use Rattle.field_kind.specs.declared.FieldKind.TheVariants.{Nothing, Four, Eight, Branch}
use Rattle.field_kind.specs.declared.ObjectField.{ObjectField}
use Rattle.field_kind.specs.Field.{bytes_in}
use Rattle.section_relocation.specs.declared.ObjectSection.{ObjectSection}
use Rattle.section_relocation.specs.Entry.{has_bytes, field_in}
use Rattle.section_relocation.proofs.Entries.{field-in-held}
use Rattle.section_overlap.specs.Overlap.{Readable}

bytes-some : (b : FieldKind) → 0 < bytes_in b → has_bytes b ≡ true
bytes-some Nothing h = absurd (omega arith)
bytes-some Four h = refl
bytes-some Eight h = refl
bytes-some Branch h = refl

module _ (file : List ℕ) (f : Format) (s : ObjectSection) where
  pub room : (n i : ℕ) → Readable file f s n → i < n → (field_in file f s i).offset + bytes_in (field_in file f s i).kind ≤ s.place + s.size
  room n i v l = (field-in-held file f s i (v.held i l)).upto

  pub above : (n i : ℕ) → Readable file f s n → i < n → 0 < bytes_in (field_in file f s i).kind → s.place ≤ (field_in file f s i).offset
  above n i v l h = (field-in-held file f s i (v.held i l)).from (bytes-some (field_in file f s i).kind h)

  pub offset-small : (n i : ℕ) (e : ObjectField) → Readable file f s n → i < n → e ≡ field_in file f s i → e.offset < 4294967296
  offset-small n i e v l q = omega (arith, room n i v l, v.ready.placed, ap (λ (x : ObjectField). x.offset) q)
