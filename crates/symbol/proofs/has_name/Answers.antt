use native.Mathlib.Omega.{arith}
use borrow.Author.Tests.{eq-eqb, ne_eqb, lt-leb, le-leb}
use mathlib.Core.Path.{refl}
use Rattle.word.proofs.Test.{found}
use Rattle.symbol.specs.Name.{has_name}
use Rattle.symbol.proofs.has_name.Goals as goal

pub returns-then-o-eq0 : goal.returns-then-o-eq0
unfolding has_name
returns-then-o-eq0 c = rw (c.in-Offset.is, eq-eqb _ 0 c.if-o-eq0.true) refl

pub has_string-requires : goal.has_string-requires
has_string-requires c = c.requires

pub returns-then-is_debug_class : goal.returns-then-is_debug_class
unfolding has_name
returns-then-is_debug_class c = rw (c.in-Offset.is, ne_eqb _ 0 c.if-o-eq0.false, found c.is_debug_class.ensures c.if-is_debug_class.true) c.has_string.ensures

pub returns-then-o-lt4 : goal.returns-then-o-lt4
unfolding has_name
returns-then-o-lt4 c = rw (c.in-Offset.is, ne_eqb _ 0 c.if-o-eq0.false, found c.is_debug_class.ensures c.if-is_debug_class.false, lt-leb 4 c.in-Offset.o (omega (arith, c.if-o-lt4.true))) refl

pub returns-in-Short : goal.returns-in-Short
unfolding has_name
returns-in-Short c = rw c.in-Short.is refl

pub returns-else-o-lt4 : goal.returns-else-o-lt4
unfolding has_name
returns-else-o-lt4 c = rw (c.in-Offset.is, ne_eqb _ 0 c.if-o-eq0.false, found c.is_debug_class.ensures c.if-is_debug_class.false, le-leb 4 _ c.if-o-lt4.false) refl
