use mathlib.Core.Path.{◌∙◌, sym}
use Rattle.plan.proofs.Fit.{imports-stop}
use Rattle.refusal.proofs.Order.{first-end, first-turn}
use Rattle.word.proofs.Test.{found}
use Rattle.plan_fit.proofs.check_imports.Goals as goal

pub returns-then-refuses_import : goal.returns-then-refuses_import
returns-then-refuses_import c = imports-stop _ c.args.l _ _ c.loop-k-test.true c.loop-k.invariant (found c.refuses_import.ensures c.if-refuses_import.true)

pub loop-k-preserved : goal.loop-k-preserved
loop-k-preserved c = c.loop-k.invariant ∙ first-turn _ _ _ c.loop-k-test.true (found c.refuses_import.ensures c.if-refuses_import.false)

pub returns : goal.returns
returns c = sym (c.loop-k.invariant ∙ first-end _ _ _ c.loop-k-test.false)
