use mathlib.Core.Path.{◌∙◌}
use Rattle.xcoff_c.proofs.xcoff_module.Goals as goal

pub returns : goal.returns
returns c = c.report_module.ensures ∙ c.module_of.ensures.report
