use borrow.Author.Tests.{not-false}
use Rattle.field_overlap.proofs.Order.{none-overlap}
use Rattle.field_overlap.proofs.are_ascending.Goals as goal

pub loop-i-preserved : goal.loop-i-preserved
loop-i-preserved c = c.step-s.ensures (not-false _ c.if-not-s.false) _ _ c.place_at-e.ensures c.loop-i.invariant

pub returns : goal.returns
returns c = λ h. none-overlap _ _ _ _ c.loop-i.auto.i-end c.loop-i-test.false c.loop-i.invariant
