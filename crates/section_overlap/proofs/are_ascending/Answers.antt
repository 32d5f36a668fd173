use Rattle.std.proofs.lemmas.Bool.{not-false}
use Rattle.section_overlap.proofs.Readable.{offset-small}
use Rattle.section_overlap.proofs.Order.{none-overlap}
use Rattle.section_overlap.proofs.are_ascending.Goals as goal

pub step_order-a-requires : goal.step_order-a-requires
step_order-a-requires c = (c.loop-i.invariant.small, offset-small _ _ _ _ _ _ c.requires c.loop-i-test.true c.field_in-e.ensures)

pub loop-i-preserved : goal.loop-i-preserved
loop-i-preserved c = record {
  small = c.step_order-a.ensures.bound;
  ascending = c.step_order-a.ensures.order (not-false _ c.if-not-a.false) _ _ c.field_in-e.ensures c.loop-i.invariant.ascending;
}

pub returns : goal.returns
returns c = λ h. none-overlap _ _ _ _ c.loop-i.auto.i-end c.loop-i-test.false c.loop-i.invariant.ascending
