use borrow.Author.Tests.{eq-eqb, ne_eqb}
use Rattle.word.specs.Test.{past}
use Rattle.module.specs.Module.{bss_below}
use Rattle.module.proofs.is_bss_below.Goals as goal

pub returns-then-bss-eq0 : goal.returns-then-bss-eq0
unfolding bss_below
returns-then-bss-eq0 c = rw (eq-eqb _ _ c.if-bss-eq0.true)

pub returns : goal.returns
unfolding bss_below past
returns c = rw (ne_eqb _ _ c.if-bss-eq0.false) c.ends_past.ensures
