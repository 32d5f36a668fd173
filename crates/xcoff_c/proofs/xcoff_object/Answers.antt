use mathlib.Core.Path.{◌∙◌}
use Rattle.xcoff_c.proofs.xcoff_object.Goals as goal

pub returns : goal.returns
returns c = c.report_object.ensures ∙ c.object_of.ensures.report
