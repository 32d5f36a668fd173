use borrow.Author.Tests.{eq-eqb, ne_eqb}
use Rattle.module.specs.Module.{lacks_data}
use Rattle.module.proofs.lacks_data.Goals as goal

pub returns-then-p-eq0 : goal.returns-then-p-eq0
unfolding lacks_data
returns-then-p-eq0 c = rw (eq-eqb _ _ c.if-p-eq0.true)

pub returns : goal.returns
unfolding lacks_data
returns c = rw (ne_eqb _ _ c.if-p-eq0.false)
