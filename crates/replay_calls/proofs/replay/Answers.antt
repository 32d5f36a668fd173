use mathlib.Core.Path.{◌∙◌, ◌≡◌, refl, sym}
use native.Mathlib.Omega.{arith}
use Rattle.script.proofs.Loop.{accepted-one, counted-bounds}
use Rattle.script.proofs.Calls.{call-inside, call-longer, call_none}
use Rattle.replay.specs.Script.{plan_end, call_end}
use Rattle.replay.proofs.Answer.{left-first, left-next, replayed}
use Rattle.script.proofs.Plans.{plans-forward}
use Rattle.replay_calls.proofs.replay.Goals as goal

pub loop-at-init : goal.loop-at-init
loop-at-init c = (refl, refl, left-first _ _ _, (omega arith, omega arith))

pub shape_of-text-then-end-eq0 : goal.shape_of-text-then-end-eq0
shape_of-text-then-end-eq0 c = c.loop-at.invariant.0

pub shape_of-data-then-end-eq0 : goal.shape_of-data-then-end-eq0
shape_of-data-then-end-eq0 c = c.loop-at.invariant.1

pub returns-then-end-eq0 : goal.returns-then-end-eq0
returns-then-end-eq0 c = let told = replayed _ _ _ _ _ _ _ _ (sym c.call_end-end.ensures ∙ c.if-end-eq0.true) c.loop-at.invariant.2 in record { cause = told.0; report = told.1.0; images = told.1.1 }

pub answer_call-last-requires : goal.answer_call-last-requires
answer_call-last-requires c = λ h. c.if-end-eq0.false (c.call_end-end.ensures ∙ h)

pub overflow_add-calls : goal.overflow_add-calls
overflow_add-calls c = let v = c.loop-at.invariant.3 in let i = call-inside plan_end c.args.script.now c.loop-at.at (λ h. c.if-end-eq0.false (c.call_end-end.ensures ∙ h)) in omega arith

pub overflow_add-accepted : goal.overflow_add-accepted
overflow_add-accepted c = let v = c.loop-at.invariant.3 in let i = call-inside plan_end c.args.script.now c.loop-at.at (λ h. c.if-end-eq0.false (c.call_end-end.ensures ∙ h)) in let e = c.accepted_one-accepted.ensures in let o = accepted-one c.answer_call-last.result in omega arith

pub loop-at-smaller : goal.loop-at-smaller
loop-at-smaller c = let nz : call_end _ _ ≡ 0 → ⊥ = λ h. c.if-end-eq0.false (c.call_end-end.ensures ∙ h) in let i = call-inside plan_end c.args.script.now c.loop-at.at nz in let l = call-longer plan_end (plans-forward 2) c.args.script.now c.loop-at.at nz in let e = c.call_end-end.ensures in omega arith

pub loop-at-preserved : goal.loop-at-preserved
loop-at-preserved c = let v = c.loop-at.invariant in let e = c.call_end-end.ensures in let nz = c.if-end-eq0.false in (c.answer_call-last.auto.text ∙ v.0, c.answer_call-last.auto.data ∙ v.1, left-next _ _ _ _ _ _ _ _ _ _ _ _ _ _ e nz (c.answer_call-last.ensures.cause, c.answer_call-last.ensures.images) c.accepted_one-accepted.ensures v.2, counted-bounds plan_end (plans-forward 2) _ _ _ _ _ _ _ e nz c.accepted_one-accepted.ensures v.3)

pub shape_of-text : goal.shape_of-text
shape_of-text c = c.loop-at.invariant.0

pub shape_of-data : goal.shape_of-data
shape_of-data c = c.loop-at.invariant.1

pub returns : goal.returns
returns c = let told = replayed _ _ _ _ _ _ _ _ (sym (call_none plan_end _ _ c.loop-at-test.false)) c.loop-at.invariant.2 in record { cause = told.0; report = told.1.0; images = told.1.1 }
