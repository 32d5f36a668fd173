use lib.ListN.{length}
use Rattle.overlap.proofs.CellLaws.{PassSoFar}
use Rattle.overlap.specs.Cells.{CellsAre}
use Rattle.relocation.specs.Relocation.{place_at}
use Rattle.overlap.proofs.pass.Given as goal

abbrev pub invariant-loop-i : goal.invariant-loop-i
invariant-loop-i l = record {
  marked : CellsAre (place_at l.file l.f l.p l.t) l.text l.base l.i l.cells;
  so_far : PassSoFar (place_at l.file l.f l.p l.t) l.text l.base (length l.initial.cells) l.i l.next;
}
