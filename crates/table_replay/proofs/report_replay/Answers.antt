use mathlib.Core.Path.{refl}
use Rattle.table_replay.proofs.report_replay.Goals as goal

pub returns : goal.returns
returns c = rw (c.answer_head-head.ensures, c.found_value.ensures) refl
