use borrow.Author.Tests.{ne_eqb}
use Rattle.relocation.specs.Relocation.{is_type}
use Rattle.relocation.proofs.is_type.Goals as goal

pub returns-in-0 : goal.returns-in-0
unfolding is_type
returns-in-0 c = rw c.in-0.is

pub returns-in-12 : goal.returns-in-12
unfolding is_type
returns-in-12 c = rw c.in-12.is

pub returns-in-13 : goal.returns-in-13
unfolding is_type
returns-in-13 c = rw c.in-13.is

pub returns-in-1 : goal.returns-in-1
unfolding is_type
returns-in-1 c = rw c.in-1.is

pub returns-in_default : goal.returns-in_default
unfolding is_type
returns-in_default c = rw (ne_eqb _ _ c.in_default.in_default-own.rest.0.0.0.1, ne_eqb _ _ c.in_default.in_default-own.rest.0.0.1, ne_eqb _ _ c.in_default.in_default-own.rest.0.1, ne_eqb _ _ c.in_default.in_default-own.rest.1)
