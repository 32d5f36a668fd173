use mathlib.Core.Path.{◌∙◌}
use Rattle.xcoff_c.proofs.xcoff_table_replay.Goals as goal

pub returns-clause-answer : goal.returns-clause-answer
returns-clause-answer c = c.report_replay.ensures ∙ c.replay_table.ensures.report
