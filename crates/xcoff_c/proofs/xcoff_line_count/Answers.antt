use mathlib.Core.Path.{◌∙◌}
use Rattle.xcoff_c.proofs.xcoff_line_count.Goals as goal

pub returns : goal.returns
returns c = c.report_count.ensures ∙ c.find_line_table.ensures.report
