-- What the refusals of the listings name is there. Assumes nothing.
use Prim.Native.Nat.{ℕ, ◌-◌, ◌*◌}
use mathlib.Core.Path.{refl}
use mathlib.Core.Bool.{not, ◌||◌}
use mathlib.Core.List.{List}
use lib.Dec.{eqb, ltb}
use lib.ListN.{length}
use Rattle.format.specs.declared.SectionNumber.{SectionNumber}
use Rattle.refusal.specs.declared.IndexItem.TheVariants.{NoSection}
use Rattle.refusal.specs.declared.Refusal.TheVariants as refusal
use Rattle.refusal.specs.declared.RoomItem.TheVariants.{RowBuffer}
use Rattle.refusal.proofs.Causes.{Causes, cause-if, cause-then}
use Rattle.offset.specs.Named.{Named}
use Rattle.offset.proofs.Named.{plain-named}
use Rattle.header.specs.declared.Summary.{Summary}
use Rattle.header.specs.Open.{open_of}
use Rattle.section_lookup.specs.Lookup.{number_check}
use Rattle.object.specs.Sections.{is_held_kind, section_at}
use Rattle.object.specs.Check.{object_check}
use Rattle.object.proofs.Named.{check-named}
use Rattle.rows.specs.Rows.{room_check}
use Rattle.object_table.specs.Table.{section_rows_check, held_check, part_of, entry_rows_check}

module _ (file : List ℕ) where
  room-named : (given needed : ℕ) → Causes (Named file) (room_check given needed)
  unfolding room_check
  room-named given needed =
      cause-if (Named file) (not (eqb given needed)) (refusal.Room RowBuffer) (λ _. plain-named file (refusal.Room RowBuffer) (λ s. refl) (λ _ e. e))

  held-named : (y : Summary) (n : SectionNumber) → Causes (Named file) (held_check y n)
  unfolding held_check number_check
  held-named y n =
      let named = plain-named file (refusal.Index (NoSection n)) (λ s. refl) (λ _ e. e) in
      cause-then (Named file) (number_check y.count n) _ (cause-if (Named file) (eqb n.0 0 || ltb y.count n.0) (refusal.Index (NoSection n)) (λ _. named))
      (λ _. cause-if (Named file) (not (is_held_kind (section_at y (n.0 - 1)).kind)) (refusal.Index (NoSection n)) (λ _. named))

  -- request 4: of the sections listed whole
  pub section-rows-named : (given : ℕ) → Causes (Named file) (section_rows_check file given)
  unfolding section_rows_check
  section-rows-named given = cause-then (Named file) (object_check file) _ (check-named file) (λ _. room-named given (5 * (open_of file).summary.count))

  -- and of a section's entries
  pub entry-rows-named : (n : SectionNumber) (given : ℕ) → Causes (Named file) (entry_rows_check file n given)
  unfolding entry_rows_check
  entry-rows-named n given =
      let y = (open_of file).summary in
      cause-then (Named file) (object_check file) _ (check-named file)
      (λ _. cause-then (Named file) (held_check y n) _ (held-named y n) (λ _. room-named given (6 * (part_of (length file) y n).count)))
