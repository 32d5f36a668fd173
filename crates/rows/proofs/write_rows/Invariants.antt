use Rattle.rows.proofs.Laws.{Writing}
use Rattle.rows.proofs.write_rows.Given as goal

abbrev pub invariant-loop-i : goal.invariant-loop-i
invariant-loop-i g l = Writing g.wanted l.width l.count l.initial.out l.out l.i
