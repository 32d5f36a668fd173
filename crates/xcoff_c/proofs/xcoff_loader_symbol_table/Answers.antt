use mathlib.Core.Path.{◌∙◌}
use Rattle.xcoff_c.proofs.xcoff_loader_symbol_table.Goals as goal

pub returns-clause-answer : goal.returns-clause-answer
returns-clause-answer c = c.report_head.ensures ∙ c.loader_symbol_table.ensures.report

pub returns-clause-rows : goal.returns-clause-rows
returns-clause-rows c = c.loader_symbol_table.ensures.rows
