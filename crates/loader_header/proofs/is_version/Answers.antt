use borrow.Author.Tests.{eq-eqb, ne_eqb}
use Rattle.loader_header.proofs.is_version.Goals as goal

pub returns-then-v-eq1 : goal.returns-then-v-eq1
returns-then-v-eq1 c = rw (eq-eqb _ _ c.if-v-eq1.true)

pub returns : goal.returns
returns c = rw (ne_eqb _ _ c.if-v-eq1.false)
