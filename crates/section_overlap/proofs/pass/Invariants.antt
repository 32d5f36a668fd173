use lib.ListN.{length}
use Rattle.section_relocation.specs.Entry.{field_in}
use Rattle.section_overlap.specs.Cells.{CellsAre}
use Rattle.section_overlap.proofs.CellLaws.{PassSoFar}
use Rattle.section_overlap.proofs.pass.Given as goal

abbrev pub invariant-loop-i : goal.invariant-loop-i
invariant-loop-i l = record {
  marked : CellsAre (field_in l.file l.f l.s) l.base l.i l.cells;
  so_far : PassSoFar (field_in l.file l.f l.s) l.base (length l.initial.cells) l.i l.next;
}
