use native.Mathlib.Omega.{arith}
use mathlib.Core.Path.{refl}
use Rattle.debug_section.specs.Debug.{string_range}
use Rattle.debug_section.proofs.Strings.{string-inside}
use Rattle.debug_section.proofs.string_range.Goals as goal

pub overflow_add-at : goal.overflow_add-at
overflow_add-at c = omega (arith, (rw c.in-Some.is at c.requires.0), (string-inside c.args.f c.args.file.now _ c.args.o (rw c.in-Some.is at c.requires.1)).high)

pub string_length-requires : goal.string_length-requires
string_length-requires c = (rw c.in-Some.is at c.requires.0, (string-inside c.args.f c.args.file.now _ c.args.o (rw c.in-Some.is at c.requires.1)).low, omega (arith, (string-inside c.args.f c.args.file.now _ c.args.o (rw c.in-Some.is at c.requires.1)).high))

pub returns-in-None : goal.returns-in-None
unfolding string_range
returns-in-None c = rw c.in-None.is refl

pub returns-in-Some : goal.returns-in-Some
unfolding string_range
returns-in-Some c = rw (c.in-Some.is, c.string_length.ensures) refl
