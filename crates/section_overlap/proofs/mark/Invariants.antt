use Rattle.section_overlap.specs.Cells.{Marked, Free}
use Rattle.section_overlap.proofs.mark.Given as goal

abbrev pub invariant-loop-place : goal.invariant-loop-place
invariant-loop-place l = record {
  marked : Marked l.base l.offset l.kind l.place l.initial.cells l.cells;
  free : Free l.base l.offset l.kind l.place l.initial.cells;
}
