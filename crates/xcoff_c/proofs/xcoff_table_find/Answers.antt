use mathlib.Core.Path.{◌∙◌}
use Rattle.xcoff_c.proofs.xcoff_table_find.Goals as goal

pub returns : goal.returns
returns c = c.report_number.ensures ∙ c.table_find.ensures.report
