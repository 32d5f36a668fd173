use mathlib.Core.Path.{◌∙◌}
use Rattle.xcoff_c.proofs.xcoff_move.Goals as goal

pub returns-clause-answer : goal.returns-clause-answer
returns-clause-answer c = c.report_call.ensures ∙ c.move_images.ensures.report

pub returns-clause-images : goal.returns-clause-images
returns-clause-images c = c.move_images.ensures.images
