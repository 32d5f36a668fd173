use Rattle.branch_range.proofs.Order.{closed-found, closed_in, closed-out}
use Rattle.branch_range.proofs.close.Goals as goal

pub returns-then-run-n : goal.returns-then-run-n
returns-then-run-n c = let a = c.args in closed-found a.run a.n c.if-run-n.true

pub returns-then-is_in_range : goal.returns-then-is_in_range
returns-then-is_in_range c = let a = c.args in closed_in a.run a.n c.if-run-n.false c.is_in_range.ensures c.if-is_in_range.true

pub returns : goal.returns
returns c = let a = c.args in closed-out a.run a.n c.if-run-n.false c.is_in_range.ensures c.if-is_in_range.false
