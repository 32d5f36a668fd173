use lib.ListN.{length}
use mathlib.Core.Path.{◌≡◌}
use Rattle.object.specs.Sections.{bytes_before, entries_before}
use Rattle.object_table.proofs.part_at.Given as goal

abbrev pub invariant-loop-j : goal.invariant-loop-j
invariant-loop-j l = (l.place ≡ bytes_before (length l.file) l.y l.j) × (l.first ≡ entries_before (length l.file) l.y l.j)
