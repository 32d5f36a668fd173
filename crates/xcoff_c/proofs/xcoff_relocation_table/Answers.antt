use mathlib.Core.Path.{◌∙◌}
use Rattle.xcoff_c.proofs.xcoff_relocation_table.Goals as goal

pub returns-clause-answer : goal.returns-clause-answer
returns-clause-answer c = c.report_head.ensures ∙ c.relocation_table.ensures.report

pub returns-clause-rows : goal.returns-clause-rows
returns-clause-rows c = c.relocation_table.ensures.rows
