use mathlib.Core.Path.{◌∙◌}
use Rattle.xcoff_c.proofs.xcoff_salvage_count.Goals as goal

pub returns : goal.returns
returns c = c.report_count.ensures ∙ c.salvage_count.ensures.report
