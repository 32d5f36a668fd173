use mathlib.Core.Path.{◌∙◌}
use Rattle.xcoff_c.proofs.xcoff_build_object.Goals as goal

pub returns-clause-answer : goal.returns-clause-answer
returns-clause-answer c = c.report_head.ensures ∙ c.build_object.ensures.report

pub returns-clause-image : goal.returns-clause-image
returns-clause-image c = c.build_object.ensures.image
