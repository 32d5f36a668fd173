use mathlib.Core.Path.{◌∙◌}
use Rattle.xcoff_c.proofs.xcoff_csect.Goals as goal

pub returns : goal.returns
returns c = c.report_csect.ensures ∙ c.csect_at.ensures.report
