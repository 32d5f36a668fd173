use mathlib.Core.Path.{◌∙◌}
use Rattle.xcoff_c.proofs.xcoff_read_records.Goals as goal

pub returns-clause-answer : goal.returns-clause-answer
returns-clause-answer c = c.report_head.ensures ∙ c.read_records.ensures.report
