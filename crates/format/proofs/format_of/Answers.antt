use borrow.Author.Tests.{eq-eqb, ne_eqb}
use Rattle.format.specs.Layout.{format_of}
use Rattle.format.proofs.format_of.Goals as goal

pub returns-then-magic-eq479 : goal.returns-then-magic-eq479
unfolding format_of
returns-then-magic-eq479 c = simp (eq-eqb _ _ c.if-magic-eq479.true)

pub returns-then-magic-eq503 : goal.returns-then-magic-eq503
unfolding format_of
returns-then-magic-eq503 c = simp (ne_eqb _ _ c.if-magic-eq479.false, eq-eqb _ _ c.if-magic-eq503.true)

pub returns : goal.returns
unfolding format_of
returns c = simp (ne_eqb _ _ c.if-magic-eq479.false, ne_eqb _ _ c.if-magic-eq503.false)
