use native.Mathlib.Omega.{arith}
use Rattle.loader_symbol.specs.Symbol.{name_in}
use Rattle.loader_symbol.proofs.name_range.Goals as goal

pub text_in-requires : goal.text_in-requires
text_in-requires c = rw c.short_name.ensures (omega (arith, c.requires.1))

pub returns-in-Short : goal.returns-in-Short
unfolding name_in
returns-in-Short c = rw (c.in-Short.is, c.text_in.ensures, c.short_name.ensures)

pub returns-in-Offset : goal.returns-in-Offset
unfolding name_in
returns-in-Offset c = rw c.in-Offset.is c.string_range.ensures
