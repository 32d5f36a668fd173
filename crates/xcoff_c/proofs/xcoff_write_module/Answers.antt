use mathlib.Core.Path.{◌∙◌}
use Rattle.xcoff_c.proofs.xcoff_write_module.Goals as goal

pub returns-clause-answer : goal.returns-clause-answer
returns-clause-answer c = c.report_head.ensures ∙ c.write_module.ensures.report

pub returns-clause-output : goal.returns-clause-output
returns-clause-output c = c.write_module.ensures.output
