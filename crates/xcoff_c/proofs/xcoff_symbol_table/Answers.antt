use mathlib.Core.Path.{◌∙◌}
use Rattle.xcoff_c.proofs.xcoff_symbol_table.Goals as goal

pub returns-clause-answer : goal.returns-clause-answer
returns-clause-answer c = c.report_walk.ensures ∙ c.symbol_table.ensures.report

pub returns-clause-rows : goal.returns-clause-rows
returns-clause-rows c = c.symbol_table.ensures.rows
