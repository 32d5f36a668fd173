use mathlib.Core.Path.{◌∙◌, sym}
use Rattle.script.specs.Script.{plan_end}
use Rattle.script.proofs.Calls.{call_none, call-build, call-cut, call-move}
use Rattle.script.proofs.call_end.Goals as goal

pub returns-then-s-at : goal.returns-then-s-at
returns-then-s-at g c = let a = c.args in call_none (plan_end g.row.HEAD) a.s.now a.at c.if-s-at.true

pub returns-then-s-at-eq0 : goal.returns-then-s-at-eq0
returns-then-s-at-eq0 g c = let a = c.args in c.plan_end-a.ensures ∙ call-build (plan_end g.row.HEAD) a.s.now a.at c.if-s-at.false c.if-s-at-eq0.true

pub returns-then-a-eq0 : goal.returns-then-a-eq0
returns-then-a-eq0 g c = let a = c.args in call-cut (plan_end g.row.HEAD) a.s.now a.at c.if-s-at.false c.if-s-at-eq0.false (sym c.plan_end-a.ensures ∙ c.if-a-eq0.true)

pub returns : goal.returns
returns g c = let a = c.args in call-move (plan_end g.row.HEAD) a.s.now a.at _ _ c.if-s-at.false c.if-s-at-eq0.false c.plan_end-a.ensures c.if-a-eq0.false c.plan_end.ensures
