use native.Mathlib.Omega.{arith}
use Rattle.script.proofs.Calls.{call-inside, build-there, move-there, call_at-build, call_at-move}
use Rattle.object_plan.specs.Object.{object_of}
use Rattle.object_replay.specs.Script.{plan_end, plans, call_at}
use Rattle.object_replay.proofs.Answer.{by_call}
use Rattle.object_replay.proofs.answer_call.Goals as goal

pub offset_bounds-s-at : goal.offset_bounds-s-at
offset_bounds-s-at c = let a = c.args in omega (arith, call-inside plan_end a.s.now a.at c.requires)

pub bounds-s-at : goal.bounds-s-at
bounds-s-at c = let a = c.args in call-inside plan_end a.s.now a.at c.requires

pub overflow_add-at : goal.overflow_add-at
overflow_add-at c = let a = c.args in omega (arith, call-inside plan_end a.s.now a.at c.requires)

pub do_build-requires : goal.do_build-requires
do_build-requires c = let a = c.args in build-there plan_end a.s.now a.at c.requires c.if-s-at-eq0.true

pub returns-then-s-at-eq0 : goal.returns-then-s-at-eq0
returns-then-s-at-eq0 c = let a = c.args in let told = by_call (object_of a.file.now) a.buffer.now _ _ _ (call_at a.s.now a.at) (c.do_build.ensures.cause, c.do_build.ensures.image) (call_at-build plans a.s.now a.at c.if-s-at-eq0.true) in record { cause = told.0; image = told.1 }

pub overflow_add-at-2 : goal.overflow_add-at-2
overflow_add-at-2 c = let a = c.args in omega (arith, call-inside plan_end a.s.now a.at c.requires)

pub do_move-requires : goal.do_move-requires
do_move-requires c = let a = c.args in move-there plan_end a.s.now a.at c.requires c.if-s-at-eq0.false

pub returns : goal.returns
returns c = let a = c.args in let told = by_call (object_of a.file.now) a.buffer.now _ _ _ (call_at a.s.now a.at) (c.do_move.ensures.cause, c.do_move.ensures.image) (call_at-move plans a.s.now a.at c.if-s-at-eq0.false) in record { cause = told.0; image = told.1 }
