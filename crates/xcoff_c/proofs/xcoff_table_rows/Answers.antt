use mathlib.Core.Path.{◌∙◌}
use Rattle.xcoff_c.proofs.xcoff_table_rows.Goals as goal

pub returns-clause-answer : goal.returns-clause-answer
returns-clause-answer c = c.report_head.ensures ∙ c.table_rows.ensures.report

pub returns-clause-rows : goal.returns-clause-rows
returns-clause-rows c = c.table_rows.ensures.rows
