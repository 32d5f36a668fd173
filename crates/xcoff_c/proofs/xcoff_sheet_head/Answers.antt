use mathlib.Core.Path.{◌∙◌}
use Rattle.xcoff_c.proofs.xcoff_sheet_head.Goals as goal

pub returns : goal.returns
returns c = c.report_sheet.ensures ∙ c.sheet_head.ensures.report
