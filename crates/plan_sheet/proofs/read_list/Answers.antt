use Prim.Native.Nat.{ℕ}
use borrow.Author.Tests.{eq-eqb, ne_eqb}
use lib.ListN.{length}
use mathlib.Core.Path.{◌∙◌, ap}
use Rattle.sheet.specs.Sheet.{head_length, numbers_from}
use Rattle.plan_sheet.proofs.read_list.Goals as goal

pub returns-then-list-head-clause-answer : goal.returns-then-list-head-clause-answer
returns-then-list-head-clause-answer c = rw (ne_eqb _ _ c.if-list-head.true)

pub returns-then-list-head-clause-list : goal.returns-then-list-head-clause-list
returns-then-list-head-clause-list c = rw (ne_eqb _ _ c.if-list-head.true)

pub returns-clause-answer : goal.returns-clause-answer
returns-clause-answer c = let a = c.args in rw (eq-eqb _ _ c.if-list-head.false)

pub returns-clause-list : goal.returns-clause-list
returns-clause-list c = let a = c.args in rw (eq-eqb _ _ c.if-list-head.false) (c.fill_list.ensures ∙ ap (λ (k : ℕ). numbers_from a.sheet.now k (length a.list.now)) c.head_length.ensures ∙ ap (λ (k : ℕ). numbers_from a.sheet.now (head_length a.f) k) c.if-list-head.false)
