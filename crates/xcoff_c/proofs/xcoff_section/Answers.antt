use mathlib.Core.Path.{◌∙◌}
use Rattle.xcoff_c.proofs.xcoff_section.Goals as goal

pub returns : goal.returns
returns c = c.report_section.ensures ∙ c.section_at.ensures.report
