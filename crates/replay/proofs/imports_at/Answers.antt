use native.Mathlib.Omega.{arith}
use Rattle.script.proofs.Plans.{list_read, plan-inside}
use Rattle.replay.specs.Script.{plan_at}
use Rattle.replay.proofs.imports_at.Goals as goal

pub overflow_add-result : goal.overflow_add-result
overflow_add-result c = omega (arith, plan-inside 2 c.args.s.now c.args.at c.plan_end-end.result c.plan_end-end.ensures c.requires)

pub offset_bounds-s-at : goal.offset_bounds-s-at
offset_bounds-s-at c = omega (arith, plan-inside 2 c.args.s.now c.args.at c.plan_end-end.result c.plan_end-end.ensures c.requires)

pub slice_bounds-result-count : goal.slice_bounds-result-count
slice_bounds-result-count c = omega (arith, plan-inside 2 c.args.s.now c.args.at c.plan_end-end.result c.plan_end-end.ensures c.requires)

pub slice_bounds-result-start : goal.slice_bounds-result-start
slice_bounds-result-start c = omega (arith, plan-inside 2 c.args.s.now c.args.at c.plan_end-end.result c.plan_end-end.ensures c.requires)

pub slice_bounds-result-end : goal.slice_bounds-result-end
slice_bounds-result-end c = omega (arith, plan-inside 2 c.args.s.now c.args.at c.plan_end-end.result c.plan_end-end.ensures c.requires)

pub returns : goal.returns
unfolding plan_at
returns c = list_read 2 c.args.s.now c.args.at _ c.plan_end-end.ensures c.requires
