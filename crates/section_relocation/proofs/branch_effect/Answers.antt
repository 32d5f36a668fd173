use borrow.Author.Tests.{eq-eqb, ne_eqb}
use Rattle.section_relocation.specs.Entry.{branch_effect}
use Rattle.section_relocation.proofs.branch_effect.Goals as goal

pub returns-then-bits-eq26 : goal.returns-then-bits-eq26
unfolding branch_effect
returns-then-bits-eq26 c = rw (eq-eqb _ _ c.if-bits-eq26.true)

pub returns : goal.returns
unfolding branch_effect
returns c = rw (ne_eqb _ _ c.if-bits-eq26.false)
