use mathlib.Core.Path.{◌∙◌}
use Rattle.xcoff_c.proofs.xcoff_replay.Goals as goal

pub returns-clause-answer : goal.returns-clause-answer
returns-clause-answer c = c.report_replay.ensures ∙ c.replay.ensures.report

pub returns-clause-images : goal.returns-clause-images
returns-clause-images c = c.replay.ensures.images
