use Rattle.field_overlap.proofs.Order.{text-step, data-step}
use Rattle.field_overlap.proofs.step.Goals as goal

pub returns-then-e : goal.returns-then-e
returns-then-e c = λ h. text-step c.args.last c.args.e _ c.extent_of-x.ensures c.if-e.true (c.follows.ensures h)

pub returns : goal.returns
returns c = λ h. data-step c.args.last c.args.e _ c.extent_of-x.ensures c.if-e.false (c.follows-2.ensures h)
