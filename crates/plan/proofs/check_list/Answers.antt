use Rattle.plan.proofs.Fit.{list-other, list-whole}
use Rattle.plan.proofs.check_list.Goals as goal

pub returns-then-list-t : goal.returns-then-list-t
returns-then-list-t c = list-whole _ _ c.if-list-t.true

pub returns : goal.returns
returns c = list-other _ _ c.if-list-t.false
