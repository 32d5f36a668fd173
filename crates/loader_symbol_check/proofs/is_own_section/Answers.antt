use borrow.Author.Tests.{eq-eqb, ne_eqb}
use Rattle.loader_symbol_check.proofs.is_own_section.Goals as goal

pub returns-then-scnum-t : goal.returns-then-scnum-t
returns-then-scnum-t c = rw (eq-eqb _ _ c.if-scnum-t.true)

pub returns-then-scnum-d : goal.returns-then-scnum-d
returns-then-scnum-d c = rw (ne_eqb _ _ c.if-scnum-t.false, eq-eqb _ _ c.if-scnum-d.true)

pub returns : goal.returns
returns c = rw (ne_eqb _ _ c.if-scnum-t.false, ne_eqb _ _ c.if-scnum-d.false)
