use mathlib.Core.Path.{◌∙◌}
use Rattle.xcoff_c.proofs.xcoff_write_sheet.Goals as goal

pub returns-clause-answer : goal.returns-clause-answer
returns-clause-answer c = c.report_head.ensures ∙ c.write_sheet.ensures.report

pub returns-clause-sheet : goal.returns-clause-sheet
returns-clause-sheet c = c.write_sheet.ensures.sheet
