use mathlib.Core.Path.{refl}
use Rattle.symbol.specs.Symbol.{symbol_of}
use Rattle.symbol.proofs.symbol_of.Goals as goal

pub returns : goal.returns
unfolding symbol_of
returns c = rw (c.section_in.ensures, c.visibility_of.ensures) refl
