use mathlib.Core.Path.{refl, ◌∙◌}
use Rattle.table_replay.proofs.answer_head.Goals as goal

pub returns-in-Err : goal.returns-in-Err
returns-in-Err c = c.refusal_head.ensures ∙ rw c.in-Err.is refl
