use mathlib.Core.Path.{◌∙◌}
use Rattle.xcoff_c.proofs.xcoff_table_add.Goals as goal

pub returns-clause-answer : goal.returns-clause-answer
returns-clause-answer c = c.report_head.ensures ∙ c.table_add.ensures.report

pub returns-clause-table : goal.returns-clause-table
returns-clause-table c = c.table_add.ensures.table
