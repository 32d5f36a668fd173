use mathlib.Core.Path.{◌∙◌}
use Rattle.xcoff_c.proofs.xcoff_import_member.Goals as goal

pub returns : goal.returns
returns c = c.report_range.ensures ∙ c.import_range.ensures.report
