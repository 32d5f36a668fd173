use mathlib.Core.Path.{◌∙◌}
use Rattle.xcoff_c.proofs.xcoff_table_remove.Goals as goal

pub returns-clause-answer : goal.returns-clause-answer
returns-clause-answer c = c.report_head.ensures ∙ c.table_remove.ensures.report

pub returns-clause-table : goal.returns-clause-table
returns-clause-table c = c.table_remove.ensures.table
