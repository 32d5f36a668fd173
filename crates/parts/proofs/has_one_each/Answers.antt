use borrow.Author.Tests.{eq-eqb, ne_eqb}
use Rattle.parts.specs.Sections.{one_each}
use Rattle.parts.proofs.has_one_each.Goals as goal

pub returns-then-text-ne1 : goal.returns-then-text-ne1
unfolding one_each
returns-then-text-ne1 c = rw (ne_eqb _ _ c.if-text-ne1.true)

pub returns-then-data-ne1 : goal.returns-then-data-ne1
unfolding one_each
returns-then-data-ne1 c = rw (eq-eqb _ _ c.if-text-ne1.false, ne_eqb _ _ c.if-data-ne1.true)

pub returns-then-bss-ne1 : goal.returns-then-bss-ne1
unfolding one_each
returns-then-bss-ne1 c = rw (eq-eqb _ _ c.if-text-ne1.false, eq-eqb _ _ c.if-data-ne1.false, ne_eqb _ _ c.if-bss-ne1.true)

pub returns : goal.returns
unfolding one_each
returns c = rw (eq-eqb _ _ c.if-text-ne1.false, eq-eqb _ _ c.if-data-ne1.false, eq-eqb _ _ c.if-bss-ne1.false)
