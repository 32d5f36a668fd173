use borrow.Author.Tests.{eq-eqb, ne_eqb}
use Rattle.word.specs.Zero.{zeros_in}
use Rattle.word.proofs.zero_bit.Goals as goal

pub returns-then-b-eq0 : goal.returns-then-b-eq0
unfolding zeros_in
returns-then-b-eq0 c = rw (eq-eqb _ _ c.if-b-eq0.true)

pub returns-else-b-eq0 : goal.returns-else-b-eq0
unfolding zeros_in
returns-else-b-eq0 c = rw (ne_eqb _ _ c.if-b-eq0.false)
