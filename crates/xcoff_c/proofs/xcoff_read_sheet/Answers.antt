use mathlib.Core.Path.{◌∙◌}
use Rattle.xcoff_c.proofs.xcoff_read_sheet.Goals as goal

pub returns-clause-answer : goal.returns-clause-answer
returns-clause-answer c = c.report_sheet.ensures ∙ c.read_sheet.ensures.report

pub returns-clause-list : goal.returns-clause-list
returns-clause-list c = c.read_sheet.ensures.list
