use mathlib.Core.Path.{refl}
use Rattle.debug_section.proofs.length_field.Goals as goal

pub returns-in-Xcoff32 : goal.returns-in-Xcoff32
returns-in-Xcoff32 c = rw (c.in-Xcoff32.is, c.at.ensures) refl

pub returns-in-Xcoff64 : goal.returns-in-Xcoff64
returns-in-Xcoff64 c = rw (c.in-Xcoff64.is, c.at-in-Xcoff64.ensures) refl
