use native.Mathlib.Omega.{arith}
use mathlib.Core.Path.{◌∙◌, sym}
use borrow.Author.Tests.{eqb-true}
use Rattle.section_overlap.proofs.Rule.{kind-same}
use Rattle.section_overlap.proofs.Order.{step-empty, step_after, step_same}
use Rattle.section_overlap.proofs.step_order.Goals as goal

pub returns-then-bytes_in-eq0-clause-order : goal.returns-then-bytes_in-eq0-clause-order
returns-then-bytes_in-eq0-clause-order c = let a = c.args in λ h. step-empty a.last a.x (sym c.bytes_in.ensures ∙ c.if-bytes_in-eq0.true)

pub returns-then-last-bytes_in-clause-order : goal.returns-then-last-bytes_in-clause-order
returns-then-last-bytes_in-clause-order c = let a = c.args in λ h. step_after a.last a.x (omega (arith, c.bytes_in-2.ensures, c.if-last-bytes_in.true))

pub returns-clause-order : goal.returns-clause-order
returns-clause-order c = let a = c.args in λ h. step_same a.last a.x c.if-last-x.false (kind-same a.last.kind a.x.kind (sym c.kind_number.ensures ∙ eqb-true _ _ h ∙ c.kind_number-2.ensures))
