use lib.ListN.{length}
use mathlib.Core.Path.{◌≡◌}
use Rattle.rows.proofs.Laws.{Writing}
use Rattle.object.specs.Sections.{bytes_before, entries_before}
use Rattle.object_table.specs.Table.{section_row}
use Rattle.object_table.proofs.write_sections.Given as goal

abbrev pub invariant-loop-k : goal.invariant-loop-k
invariant-loop-k l = Writing (section_row (length l.file) l.y) 5 l.y.count l.initial.out l.out l.k × (l.place ≡ bytes_before (length l.file) l.y l.k) × (l.first ≡ entries_before (length l.file) l.y l.k)
