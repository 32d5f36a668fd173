use Rattle.relocation.specs.Relocation.{place_at}
use Rattle.field_overlap.specs.Ascending.{Ascending}
use Rattle.field_overlap.proofs.are_ascending.Given as goal

abbrev pub invariant-loop-i : goal.invariant-loop-i
invariant-loop-i l = Ascending (place_at l.file l.f l.p l.t) l.i l.last
