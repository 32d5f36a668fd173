use mathlib.Core.Path.{◌∙◌}
use Rattle.xcoff_c.proofs.xcoff_import_table.Goals as goal

pub returns-clause-answer : goal.returns-clause-answer
returns-clause-answer c = c.report_head.ensures ∙ c.import_table.ensures.report

pub returns-clause-rows : goal.returns-clause-rows
returns-clause-rows c = c.import_table.ensures.rows
