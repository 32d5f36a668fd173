use borrow.Author.Tests.{ne_eqb}
use Rattle.section_relocation.specs.Entry.{class_of}
use Rattle.section_relocation.proofs.class_of.Goals as goal

pub returns-in-0 : goal.returns-in-0
unfolding class_of
returns-in-0 c = rw c.in-0.is

pub returns-in-12 : goal.returns-in-12
unfolding class_of
returns-in-12 c = rw c.in-12.is

pub returns-in-13 : goal.returns-in-13
unfolding class_of
returns-in-13 c = rw c.in-13.is

pub returns-in-1 : goal.returns-in-1
unfolding class_of
returns-in-1 c = rw c.in-1.is

pub returns-in-8 : goal.returns-in-8
unfolding class_of
returns-in-8 c = rw c.in-8.is

pub returns-in-24 : goal.returns-in-24
unfolding class_of
returns-in-24 c = rw c.in-24.is

pub returns-in-10 : goal.returns-in-10
unfolding class_of
returns-in-10 c = rw c.in-10.is

pub returns-in-26 : goal.returns-in-26
unfolding class_of
returns-in-26 c = rw c.in-26.is

pub returns-in-15 : goal.returns-in-15
unfolding class_of
returns-in-15 c = rw c.in-15.is

pub returns-in_default : goal.returns-in_default
unfolding class_of
returns-in_default c = let r = c.in_default.in_default-own.rest in rw (ne_eqb _ _ r.0.0.0.0.0.0.0.0.1, ne_eqb _ _ r.0.0.0.0.0.0.0.1, ne_eqb _ _ r.0.0.0.0.0.0.1, ne_eqb _ _ r.0.0.0.0.0.1, ne_eqb _ _ r.0.0.0.0.1, ne_eqb _ _ r.0.0.0.1, ne_eqb _ _ r.0.0.1, ne_eqb _ _ r.0.1, ne_eqb _ _ r.1)
