use mathlib.Core.Path.{◌∙◌}
use Rattle.xcoff_c.proofs.xcoff_build.Goals as goal

pub returns-clause-answer : goal.returns-clause-answer
returns-clause-answer c = c.report_call.ensures ∙ c.build_images.ensures.report

pub returns-clause-images : goal.returns-clause-images
returns-clause-images c = c.build_images.ensures.images
