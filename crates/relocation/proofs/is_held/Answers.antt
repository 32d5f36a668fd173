use borrow.Author.Tests.{eq-eqb, ne_eqb}
use Rattle.relocation.specs.Relocation.{is_held}
use Rattle.relocation.proofs.is_held.Goals as goal

pub returns-then-e-t : goal.returns-then-e-t
unfolding is_held
returns-then-e-t c = rw (eq-eqb _ _ c.if-e-t.true) c.is_inside.ensures

pub returns-then-e-d : goal.returns-then-e-d
unfolding is_held
returns-then-e-d c = rw (ne_eqb _ _ c.if-e-t.false, eq-eqb _ _ c.if-e-d.true) c.is_inside-then-e-d.ensures

pub returns : goal.returns
unfolding is_held
returns c = rw (ne_eqb _ _ c.if-e-t.false, ne_eqb _ _ c.if-e-d.false)
