use borrow.Author.Tests.{eq-eqb, ne_eqb}
use Rattle.auxiliary.proofs.same_extent.Goals as goal

pub returns-then-size-p : goal.returns-then-size-p
returns-then-size-p c = rw (ne_eqb _ _ c.if-size-p.true)

pub returns : goal.returns
returns c = rw (eq-eqb _ _ c.if-size-p.false)
