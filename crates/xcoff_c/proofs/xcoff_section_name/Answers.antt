use mathlib.Core.Path.{◌∙◌}
use Rattle.xcoff_c.proofs.xcoff_section_name.Goals as goal

pub returns : goal.returns
returns c = c.report_range.ensures ∙ c.section_name_range.ensures.report
