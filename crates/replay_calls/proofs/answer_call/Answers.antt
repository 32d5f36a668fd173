use native.Mathlib.Omega.{arith}
use Rattle.script.proofs.Calls.{build-there, call-inside, call_at-build, call_at-move, move-there}
use Rattle.replay.specs.Script.{plans, plan_end}
use Rattle.replay.proofs.Plans.{by_call}
use Rattle.replay_calls.proofs.answer_call.Goals as goal

pub offset_bounds-s-at : goal.offset_bounds-s-at
offset_bounds-s-at c = omega (arith, call-inside plan_end c.args.s.now c.args.at c.requires)

pub bounds-s-at : goal.bounds-s-at
bounds-s-at c = call-inside plan_end c.args.s.now c.args.at c.requires

pub overflow_add-at : goal.overflow_add-at
overflow_add-at c = omega (arith, call-inside plan_end c.args.s.now c.args.at c.requires)

pub do_build-requires : goal.do_build-requires
do_build-requires c = build-there plan_end c.args.s.now c.args.at c.requires c.if-s-at-eq0.true

pub returns-then-s-at-eq0 : goal.returns-then-s-at-eq0
returns-then-s-at-eq0 c = let told = by_call _ _ _ _ _ _ _ _ (c.do_build.ensures.cause, c.do_build.ensures.images) (call_at-build plans c.args.s.now c.args.at c.if-s-at-eq0.true) in record { cause = told.0; images = told.1 }

pub overflow_add-at-2 : goal.overflow_add-at-2
overflow_add-at-2 c = omega (arith, call-inside plan_end c.args.s.now c.args.at c.requires)

pub do_move-requires : goal.do_move-requires
do_move-requires c = move-there plan_end c.args.s.now c.args.at c.requires c.if-s-at-eq0.false

pub returns : goal.returns
returns c = let told = by_call _ _ _ _ _ _ _ _ (c.do_move.ensures.cause, c.do_move.ensures.images) (call_at-move plans c.args.s.now c.args.at c.if-s-at-eq0.false) in record { cause = told.0; images = told.1 }
