use mathlib.Core.Path.{◌∙◌, ◌≡◌, refl, sym}
use native.Mathlib.Omega.{arith}
use Rattle.script.proofs.Loop.{accepted-one}
use Rattle.table_replay.specs.Script.{call_end}
use Rattle.table_replay.proofs.Answer.{counted-bounds, left-first, left-next, replayed}
use Rattle.table_replay.proofs.Ends.{call-inside, call-longer, call_none}
use Rattle.table_replay.proofs.replay_table.Goals as goal

pub loop-at-init : goal.loop-at-init
loop-at-init c = (refl, left-first _ _ _ _ _, (omega arith, omega arith, omega arith))

pub shape_of-list-then-end-eq0 : goal.shape_of-list-then-end-eq0
shape_of-list-then-end-eq0 c = c.loop-at.invariant.0

pub returns-then-end-eq0 : goal.returns-then-end-eq0
returns-then-end-eq0 c = let told = replayed _ _ _ _ _ _ _ _ (sym c.call_end-end.ensures ∙ c.if-end-eq0.true) c.loop-at.invariant.1 in record { cause = told.0; report = told.1.0; rows = told.1.1.0; table = told.1.1.1.0; list = told.1.1.1.1 }

pub call_at-last-requires : goal.call_at-last-requires
call_at-last-requires c = λ h. c.if-end-eq0.false (c.call_end-end.ensures ∙ h)

pub overflow_add-calls : goal.overflow_add-calls
overflow_add-calls c = let v = c.loop-at.invariant.2 in let i = call-inside c.args.script.now c.loop-at.at (λ h. c.if-end-eq0.false (c.call_end-end.ensures ∙ h)) in omega arith

pub overflow_add-accepted : goal.overflow_add-accepted
overflow_add-accepted c = let v = c.loop-at.invariant.2 in let i = call-inside c.args.script.now c.loop-at.at (λ h. c.if-end-eq0.false (c.call_end-end.ensures ∙ h)) in let e = c.accepted_one-accepted.ensures in let o = accepted-one c.call_at-last.result in omega arith

pub loop-at-smaller : goal.loop-at-smaller
loop-at-smaller c = let nz : call_end _ _ ≡ 0 → ⊥ = λ h. c.if-end-eq0.false (c.call_end-end.ensures ∙ h) in let i = call-inside c.args.script.now c.loop-at.at nz in let l = call-longer c.args.script.now c.loop-at.at nz in let e = c.call_end-end.ensures in omega arith

pub loop-at-preserved : goal.loop-at-preserved
loop-at-preserved c = let v = c.loop-at.invariant in let e = c.call_end-end.ensures in let nz = c.if-end-eq0.false in let m = c.call_at-last in (m.auto.list ∙ v.0, left-next _ _ _ _ _ _ _ _ _ _ _ _ _ _ _ _ _ m.ensures.whole e nz v.0 (m.ensures.answer, (m.ensures.table, m.ensures.list)) c.accepted_one-accepted.ensures v.1, counted-bounds _ _ _ _ _ _ _ e nz c.accepted_one-accepted.ensures (v.2.0, v.2.1))

pub shape_of-list : goal.shape_of-list
shape_of-list c = c.loop-at.invariant.0

pub returns : goal.returns
returns c = let told = replayed _ _ _ _ _ _ _ _ (sym (call_none _ _ c.loop-at-test.false)) c.loop-at.invariant.1 in record { cause = told.0; report = told.1.0; rows = told.1.1.0; table = told.1.1.1.0; list = told.1.1.1.1 }
