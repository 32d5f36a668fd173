use mathlib.Core.Path.{◌∙◌, sym}
use native.Mathlib.Omega.{arith}
use Rattle.refusal.proofs.Order.{first-end}
use Rattle.object_history.specs.Object.{section_check}
use Rattle.object_shifts.specs.Places.{planned_by}
use Rattle.object_shifts.proofs.Fit.{fit-start, fit-turn, fit-stop}
use Rattle.object_shifts.proofs.check_fit.Goals as goal

pub loop-k-init : goal.loop-k-init
loop-k-init c = let a = c.args in fit-start a.y a.p.now

pub returns-then-refuses_address : goal.returns-then-refuses_address
returns-then-refuses_address c = let a = c.args in sym (c.loop-k.invariant ∙ fit-stop a.y a.p.now c.last_address-last.result.0 c.last_address-last.ensures c.loop-k.k (omega (arith, c.loop-k-test.true, c.requires.1)) c.refuses_address.ensures c.if-refuses_address.true)

pub loop-k-preserved : goal.loop-k-preserved
loop-k-preserved c = let a = c.args in c.loop-k.invariant ∙ fit-turn a.y a.p.now c.last_address-last.result.0 c.last_address-last.ensures c.loop-k.k (omega (arith, c.loop-k-test.true, c.requires.1)) c.refuses_address.ensures c.if-refuses_address.false

pub returns : goal.returns
returns c = let a = c.args in sym (c.loop-k.invariant ∙ first-end (section_check (planned_by a.y) a.p.now) a.y.count c.loop-k.k (omega (arith, c.loop-k-test.false, c.requires.1)))
