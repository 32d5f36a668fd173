use borrow.Author.Tests.{ne_eqb}
use mathlib.Core.Bool.{and-true}
use Rattle.csect.specs.Csect.{is_mapped, is_mapping_class}
use Rattle.csect.proofs.is_mapped.Goals as goal

pub returns-then-m-eq9 : goal.returns-then-m-eq9
unfolding is_mapped is_mapping_class
returns-then-m-eq9 c = rw (c.in-Sd.is, c.if-m-eq9.true)

pub returns-then-m-eq11 : goal.returns-then-m-eq11
unfolding is_mapped is_mapping_class
returns-then-m-eq11 c = rw (c.in-Sd.is, c.if-m-eq11.true)

pub returns-in-Er : goal.returns-in-Er
unfolding is_mapped
returns-in-Er c = rw c.in-Er.is

pub returns-in-Ld : goal.returns-in-Ld
unfolding is_mapped
returns-in-Ld c = rw c.in-Ld.is

pub returns-in-Cm : goal.returns-in-Cm
unfolding is_mapped
returns-in-Cm c = rw c.in-Cm.is c.is_mapping_class.ensures

pub returns-else-m-eq11 : goal.returns-else-m-eq11
unfolding is_mapped
returns-else-m-eq11 c = rw (c.in-Sd.is, ne_eqb _ 9 c.if-m-eq9.false, ne_eqb _ 11 c.if-m-eq11.false, and-true) c.is_mapping_class-in-Sd.ensures
