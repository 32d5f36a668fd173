use mathlib.Core.Path.{◌∙◌}
use Rattle.xcoff_c.proofs.xcoff_walk.Goals as goal

pub returns : goal.returns
returns c = c.report_walk.ensures ∙ c.walk.ensures.report
