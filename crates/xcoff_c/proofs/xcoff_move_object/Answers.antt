use mathlib.Core.Path.{◌∙◌}
use Rattle.xcoff_c.proofs.xcoff_move_object.Goals as goal

pub returns-clause-answer : goal.returns-clause-answer
returns-clause-answer c = c.report_head.ensures ∙ c.move_object.ensures.report

pub returns-clause-image : goal.returns-clause-image
returns-clause-image c = c.move_object.ensures.image
