use mathlib.Core.Path.{refl, ◌∙◌, sym}
use native.Mathlib.Omega.{arith}
use Rattle.script.proofs.Loop.{accepted-one, counted-bounds}
use Rattle.script.proofs.Calls.{call_none, call-inside, call-longer}
use Rattle.object_plan.specs.Object.{object_of}
use Rattle.object_replay.specs.Script.{plan_end}
use Rattle.script.proofs.Plans.{plans-forward}
use Rattle.object_replay.proofs.Answer.{left-first, left-next, replayed}
use Rattle.object_replay.proofs.replay_object.Goals as goal

pub loop-at-init : goal.loop-at-init
loop-at-init c = let a = c.args in (refl, left-first (object_of a.file.now) a.script.now a.buffer.now, (omega arith, omega arith))

pub shape_of-buffer-then-end-eq0 : goal.shape_of-buffer-then-end-eq0
shape_of-buffer-then-end-eq0 c = c.loop-at.invariant.0

pub returns-then-end-eq0 : goal.returns-then-end-eq0
returns-then-end-eq0 c = let a = c.args in let told = replayed a.file.now a.script.now c.loop-at.at _ _ _ _ _ (sym c.call_end-end.ensures ∙ c.if-end-eq0.true) c.loop-at.invariant.1 in record { cause = told.0; report = told.1.0; image = told.1.1 }

pub answer_call-last-requires : goal.answer_call-last-requires
answer_call-last-requires c = λ h. c.if-end-eq0.false (c.call_end-end.ensures ∙ h)

pub overflow_add-calls : goal.overflow_add-calls
overflow_add-calls c = let a = c.args in let v = c.loop-at.invariant.2 in let i = call-inside plan_end a.script.now c.loop-at.at (λ h. c.if-end-eq0.false (c.call_end-end.ensures ∙ h)) in omega arith

pub overflow_add-accepted : goal.overflow_add-accepted
overflow_add-accepted c = let a = c.args in let v = c.loop-at.invariant.2 in let i = call-inside plan_end a.script.now c.loop-at.at (λ h. c.if-end-eq0.false (c.call_end-end.ensures ∙ h)) in let e = c.accepted_one-accepted.ensures in let o = accepted-one c.answer_call-last.result in omega arith

pub loop-at-smaller : goal.loop-at-smaller
loop-at-smaller c = let a = c.args in let i = call-inside plan_end a.script.now c.loop-at.at (λ h. c.if-end-eq0.false (c.call_end-end.ensures ∙ h)) in let l = call-longer plan_end (plans-forward 0) a.script.now c.loop-at.at (λ h. c.if-end-eq0.false (c.call_end-end.ensures ∙ h)) in let e = c.call_end-end.ensures in omega arith

pub loop-at-preserved : goal.loop-at-preserved
loop-at-preserved c = let a = c.args in let v = c.loop-at.invariant in (c.answer_call-last.auto.buffer ∙ v.0, left-next (object_of a.file.now) a.script.now c.loop-at.at _ _ _ _ _ _ _ _ _ c.call_end-end.ensures c.if-end-eq0.false (c.answer_call-last.ensures.cause, c.answer_call-last.ensures.image) c.accepted_one-accepted.ensures v.1, counted-bounds plan_end (plans-forward 0) a.script.now c.loop-at.at _ _ _ _ _ c.call_end-end.ensures c.if-end-eq0.false c.accepted_one-accepted.ensures v.2)

pub shape_of-buffer : goal.shape_of-buffer
shape_of-buffer c = c.loop-at.invariant.0

pub returns : goal.returns
returns c = let a = c.args in let told = replayed a.file.now a.script.now c.loop-at.at _ _ _ _ _ (sym (call_none plan_end a.script.now c.loop-at.at c.loop-at-test.false)) c.loop-at.invariant.1 in record { cause = told.0; report = told.1.0; image = told.1.1 }
