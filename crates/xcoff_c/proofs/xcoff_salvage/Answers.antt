use mathlib.Core.Path.{◌∙◌}
use Rattle.xcoff_c.proofs.xcoff_salvage.Goals as goal

pub returns-clause-answer : goal.returns-clause-answer
returns-clause-answer c = let s = c.salvage.ensures in c.report_count.ensures ∙ s.answer

pub returns-clause-copied : goal.returns-clause-copied
returns-clause-copied c = let s = c.salvage.ensures in s.copied

pub returns-clause-reported : goal.returns-clause-reported
returns-clause-reported c = let s = c.salvage.ensures in s.reported
