use native.Mathlib.Omega.{arith}
use Rattle.debug_section.proofs.Strings.{length-placed, length-read}
use Rattle.debug_section.proofs.string_length.Goals as goal

pub overflow_sub-at : goal.overflow_sub-at
overflow_sub-at c = omega (arith, (length-placed c.args.f c.args.d c.args.o c.length_field-l.ensures c.bytes_in.ensures c.requires.0 c.requires.1 c.requires.2).0)

pub read_field-requires : goal.read_field-requires
read_field-requires c = (length-placed c.args.f c.args.d c.args.o c.length_field-l.ensures c.bytes_in.ensures c.requires.0 c.requires.1 c.requires.2).1

pub returns : goal.returns
returns c = length-read c.args.f c.args.file.now c.args.d c.args.o c.length_field-l.ensures c.bytes_in.ensures c.read_field.ensures.value
