use mathlib.Core.Path.{◌∙◌}
use Rattle.xcoff_c.proofs.xcoff_find_line.Goals as goal

pub returns : goal.returns
returns c = c.report_line.ensures ∙ c.find_line.ensures.report
