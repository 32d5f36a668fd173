use native.Mathlib.Omega.{arith}
use Rattle.script.proofs.Plans.{plan-short, plan-over, plan-whole}
use Rattle.script.proofs.plan_end.Goals as goal

pub returns-then-len-at : goal.returns-then-len-at
returns-then-len-at g c = plan-short g.row.HEAD c.args.s.now c.args.at (omega arith)

pub returns-then-len-at-2 : goal.returns-then-len-at-2
returns-then-len-at-2 g c = plan-short g.row.HEAD c.args.s.now c.args.at (omega arith)

pub returns-then-len-at-3 : goal.returns-then-len-at-3
returns-then-len-at-3 g c = plan-over g.row.HEAD c.args.s.now c.args.at (omega arith) (omega arith)

pub returns : goal.returns
returns g c = plan-whole g.row.HEAD c.args.s.now c.args.at (omega arith) (omega arith)
