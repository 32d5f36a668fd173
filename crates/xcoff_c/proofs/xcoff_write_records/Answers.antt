use mathlib.Core.Path.{◌∙◌}
use Rattle.xcoff_c.proofs.xcoff_write_records.Goals as goal

pub returns-clause-answer : goal.returns-clause-answer
returns-clause-answer c = c.report_head.ensures ∙ c.write_records.ensures.report

pub returns-clause-records : goal.returns-clause-records
returns-clause-records c = c.write_records.ensures.records
