use mathlib.Core.Path.{refl}
use Rattle.object_replay.proofs.report_object_replay.Goals as goal

pub returns : goal.returns
returns c = rw c.report_head.ensures refl
