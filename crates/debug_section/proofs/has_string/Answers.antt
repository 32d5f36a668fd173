use native.Mathlib.Omega.{arith}
use mathlib.Core.Path.{refl}
use Rattle.debug_section.specs.Debug.{has_string}
use Rattle.debug_section.proofs.Strings.{width_is, length_before, length-behind, string-judged}
use Rattle.debug_section.proofs.has_string.Goals as goal

pub returns-then-o-bytes_in : goal.returns-then-o-bytes_in
returns-then-o-bytes_in c = let a = c.args in rw c.in-Some.is (length_before a.f a.file.now _ a.o (omega (arith, c.if-o-bytes_in.true, width_is a.f c.length_field-l.ensures c.bytes_in.ensures)))

pub returns-then-r-o : goal.returns-then-r-o
returns-then-r-o c = let a = c.args in rw c.in-Some.is (length-behind a.f a.file.now _ a.o (omega (arith, c.if-o-bytes_in.false, width_is a.f c.length_field-l.ensures c.bytes_in.ensures)) c.if-r-o.true)

pub string_length-requires : goal.string_length-requires
string_length-requires c = let a = c.args in (rw c.in-Some.is at c.requires, omega (arith, c.if-o-bytes_in.false, width_is a.f c.length_field-l.ensures c.bytes_in.ensures), c.if-r-o.false)

pub returns-in-None : goal.returns-in-None
unfolding has_string
returns-in-None c = rw c.in-None.is refl

pub returns-else-r-o : goal.returns-else-r-o
returns-else-r-o c = let a = c.args in rw c.in-Some.is (string-judged a.f a.file.now _ a.o (omega (arith, c.if-o-bytes_in.false, width_is a.f c.length_field-l.ensures c.bytes_in.ensures)) c.if-r-o.false c.string_length.ensures c.ends_past.ensures)
