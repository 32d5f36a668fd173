use mathlib.Core.Path.{refl}
use borrow.Author.Tests.{eq-eqb, ne_eqb}
use Rattle.address_book.proofs.is_bench.Goals as goal

pub returns-then-b-eq1 : goal.returns-then-b-eq1
returns-then-b-eq1 c = rw (eq-eqb _ _ c.if-b-eq1.true) refl

pub returns : goal.returns
returns c = rw (ne_eqb _ _ c.if-b-eq1.false) refl
