use borrow.Author.Tests.{ne_eqb}
use Rattle.visibility.specs.Visibility.{is_csect_class}
use Rattle.visibility.proofs.is_csect_class.Goals as goal

pub returns-in-2 : goal.returns-in-2
unfolding is_csect_class
returns-in-2 c = rw c.in-2.is

pub returns-in-107 : goal.returns-in-107
unfolding is_csect_class
returns-in-107 c = rw c.in-107.is

pub returns-in-111 : goal.returns-in-111
unfolding is_csect_class
returns-in-111 c = rw c.in-111.is

pub returns-in_default : goal.returns-in_default
unfolding is_csect_class
returns-in_default c = rw (ne_eqb _ 2 c.in_default.in_default-own.rest.0.0.1, ne_eqb _ 107 c.in_default.in_default-own.rest.0.1, ne_eqb _ 111 c.in_default.in_default-own.rest.1)
