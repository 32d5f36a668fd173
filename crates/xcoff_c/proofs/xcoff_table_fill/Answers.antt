use mathlib.Core.Path.{◌∙◌}
use Rattle.xcoff_c.proofs.xcoff_table_fill.Goals as goal

pub returns-clause-answer : goal.returns-clause-answer
returns-clause-answer c = c.report_head.ensures ∙ c.table_fill.ensures.report

pub returns-clause-list : goal.returns-clause-list
returns-clause-list c = c.table_fill.ensures.list
