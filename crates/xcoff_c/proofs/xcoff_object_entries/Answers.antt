use mathlib.Core.Path.{◌∙◌}
use Rattle.xcoff_c.proofs.xcoff_object_entries.Goals as goal

pub returns-clause-answer : goal.returns-clause-answer
returns-clause-answer c = c.report_head.ensures ∙ c.object_entries.ensures.report

pub returns-clause-rows : goal.returns-clause-rows
returns-clause-rows c = c.object_entries.ensures.rows
