use Rattle.mend.specs.Mend.{without_visibility}
use mathlib.Core.Path.{refl}
use Rattle.mend.proofs.without_visibility.Goals as goal

pub returns : goal.returns
unfolding without_visibility
returns c = refl
