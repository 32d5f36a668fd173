use Rattle.object_shifts.proofs.Fit.{list-other, list-whole}
use Rattle.object_shifts.proofs.check_list.Goals as goal

pub returns-then-p-y : goal.returns-then-p-y
returns-then-p-y c = let a = c.args in list-whole a.y a.p.now c.if-p-y.true

pub returns : goal.returns
returns c = let a = c.args in list-other a.y a.p.now c.if-p-y.false
