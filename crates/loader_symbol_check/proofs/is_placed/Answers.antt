use borrow.Author.Tests.{eq-eqb, ne_eqb}
use Rattle.loader_symbol.specs.Symbol.{is_placed}
use Rattle.loader_symbol_check.proofs.is_placed.Goals as goal

pub returns-then-e-ne0 : goal.returns-then-e-ne0
unfolding is_placed
returns-then-e-ne0 c = rw (eq-eqb _ _ c.if-e-eq1.true, ne_eqb _ _ c.if-e-ne0.true)

pub returns-then-e-eq0 : goal.returns-then-e-eq0
unfolding is_placed
returns-then-e-eq0 c = rw (eq-eqb _ _ c.if-e-eq1.true, eq-eqb _ _ c.if-e-ne0.false, eq-eqb _ _ c.if-e-eq0.true)

pub returns-then-e-eq1 : goal.returns-then-e-eq1
unfolding is_placed
returns-then-e-eq1 c = rw (eq-eqb _ _ c.if-e-eq1.true, eq-eqb _ _ c.if-e-ne0.false, ne_eqb _ _ c.if-e-eq0.false)

pub returns-then-e-ne0-2 : goal.returns-then-e-ne0-2
unfolding is_placed
returns-then-e-ne0-2 c = rw (ne_eqb _ _ c.if-e-eq1.false, ne_eqb _ _ c.if-e-ne0-2.true)

pub returns : goal.returns
unfolding is_placed
returns c = rw (ne_eqb _ _ c.if-e-eq1.false, eq-eqb _ _ c.if-e-ne0-2.false) c.is_own_section.ensures
