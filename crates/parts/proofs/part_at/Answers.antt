use mathlib.Core.Path.{refl}
use Rattle.parts.specs.Sections.{part_at}
use Rattle.parts.proofs.part_at.Goals as goal

pub returns : goal.returns
unfolding part_at
returns c = refl
