use mathlib.Core.Path.{◌∙◌}
use Rattle.xcoff_c.proofs.xcoff_replay_object.Goals as goal

pub returns-clause-answer : goal.returns-clause-answer
returns-clause-answer c = c.report_object_replay.ensures ∙ c.replay_object.ensures.report

pub returns-clause-image : goal.returns-clause-image
returns-clause-image c = c.replay_object.ensures.image
