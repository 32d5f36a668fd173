use Rattle.symbol.specs.Name.{is_debug_class}
use mathlib.Core.Path.{refl}
use Rattle.symbol.proofs.is_debug_class.Goals as goal

pub returns : goal.returns
unfolding is_debug_class
returns c = refl
