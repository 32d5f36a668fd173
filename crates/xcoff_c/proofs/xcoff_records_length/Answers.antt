use mathlib.Core.Path.{◌∙◌}
use Rattle.xcoff_c.proofs.xcoff_records_length.Goals as goal

pub returns : goal.returns
returns c = c.report_length.ensures ∙ c.records_length.ensures.report
