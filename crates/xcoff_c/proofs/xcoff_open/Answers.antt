use mathlib.Core.Path.{◌∙◌}
use Rattle.xcoff_c.proofs.xcoff_open.Goals as goal

pub returns : goal.returns
returns c = c.report_open.ensures ∙ c.open.ensures.report
