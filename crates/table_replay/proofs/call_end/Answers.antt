use native.Mathlib.Omega.{arith}
use Rattle.table_replay.proofs.Ends.{call-cut, call-whole}
use Rattle.table_replay.proofs.call_end.Goals as goal

pub returns-then-left-fixed : goal.returns-then-left-fixed
returns-then-left-fixed c = let a = c.args in call-cut a.s.now a.at c.number_at.ensures c.fixed_of-fixed.ensures.count c.name_length-n.ensures (omega arith)

pub returns-then-left-fixed-2 : goal.returns-then-left-fixed-2
returns-then-left-fixed-2 c = let a = c.args in call-cut a.s.now a.at c.number_at.ensures c.fixed_of-fixed.ensures.count c.name_length-n.ensures (omega arith)

pub returns : goal.returns
returns c = let a = c.args in call-whole a.s.now a.at c.number_at.ensures c.fixed_of-fixed.ensures.count c.name_length-n.ensures (omega arith)
