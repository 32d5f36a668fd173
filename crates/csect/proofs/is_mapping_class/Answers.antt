use borrow.Author.Tests.{le-leb, lt-leb}
use native.Mathlib.Omega.{arith}
use Rattle.csect.specs.Csect.{is_mapping_class}
use Rattle.csect.proofs.is_mapping_class.Goals as goal

pub returns-then-m-le13 : goal.returns-then-m-le13
unfolding is_mapping_class
returns-then-m-le13 c = rw (le-leb _ 13 c.if-m-le13.true)

pub returns-then-m-lt15 : goal.returns-then-m-lt15
unfolding is_mapping_class
returns-then-m-lt15 c = rw (lt-leb _ 13 c.if-m-le13.false, lt-leb 15 _ c.if-m-lt15.true, lt-leb 20 c.args.m (omega arith))

pub returns-then-m-le18 : goal.returns-then-m-le18
unfolding is_mapping_class
returns-then-m-le18 c = rw (lt-leb _ 13 c.if-m-le13.false, le-leb 15 _ c.if-m-lt15.false, le-leb _ 18 c.if-m-le18.true)

pub returns-then-m-lt20 : goal.returns-then-m-lt20
unfolding is_mapping_class
returns-then-m-lt20 c = rw (lt-leb _ 13 c.if-m-le13.false, le-leb 15 _ c.if-m-lt15.false, lt-leb _ 18 c.if-m-le18.false, lt-leb 20 _ c.if-m-lt20.true)

pub returns : goal.returns
unfolding is_mapping_class
returns c = rw (lt-leb _ 13 c.if-m-le13.false, le-leb 15 _ c.if-m-lt15.false, lt-leb _ 18 c.if-m-le18.false, le-leb 20 _ c.if-m-lt20.false)
