use borrow.Author.Tests.{eq-eqb, ne_eqb}
use Rattle.word.proofs.Test.{found}
use Rattle.module.specs.Module.{is_anchor}
use Rattle.module.proofs.is_anchor.Goals as goal

pub returns-then-n-eq0 : goal.returns-then-n-eq0
unfolding is_anchor
returns-then-n-eq0 c = rw (eq-eqb _ _ c.if-n-eq0.true)

pub returns-then-same_section : goal.returns-then-same_section
unfolding is_anchor
returns-then-same_section c = rw (ne_eqb _ _ c.if-n-eq0.false, found c.same_section.ensures c.if-same_section.true)

pub returns : goal.returns
unfolding is_anchor
returns c = rw (ne_eqb _ _ c.if-n-eq0.false, found c.same_section.ensures c.if-same_section.false) c.same_section-2.ensures
