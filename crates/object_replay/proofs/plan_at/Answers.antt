use native.Mathlib.Omega.{arith}
use Rattle.script.proofs.Plans.{plan-inside, list_read}
use Rattle.object_replay.proofs.plan_at.Goals as goal

pub overflow_add-result : goal.overflow_add-result
overflow_add-result c = let a = c.args in omega (arith, plan-inside 0 a.s.now a.at c.plan_end-end.result c.plan_end-end.ensures c.requires)

pub offset_bounds-s-at : goal.offset_bounds-s-at
offset_bounds-s-at c = let a = c.args in omega (arith, plan-inside 0 a.s.now a.at c.plan_end-end.result c.plan_end-end.ensures c.requires)

pub slice_bounds-result-count : goal.slice_bounds-result-count
slice_bounds-result-count c = let a = c.args in omega (arith, plan-inside 0 a.s.now a.at c.plan_end-end.result c.plan_end-end.ensures c.requires)

pub slice_bounds-result-start : goal.slice_bounds-result-start
slice_bounds-result-start c = let a = c.args in omega (arith, plan-inside 0 a.s.now a.at c.plan_end-end.result c.plan_end-end.ensures c.requires)

pub slice_bounds-result-end : goal.slice_bounds-result-end
slice_bounds-result-end c = let a = c.args in omega (arith, plan-inside 0 a.s.now a.at c.plan_end-end.result c.plan_end-end.ensures c.requires)

pub returns : goal.returns
returns c = let a = c.args in list_read 0 a.s.now a.at _ c.plan_end-end.ensures c.requires
