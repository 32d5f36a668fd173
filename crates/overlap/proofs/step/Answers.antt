use mathlib.Core.Path.{◌∙◌, sym}
use Rattle.overlap.proofs.CellLaws.{step_same, step_other}
use Rattle.overlap.proofs.step.Goals as goal

pub returns-then-same_section : goal.returns-then-same_section
returns-then-same_section c = λ r i q. step_same r _ _ i _ _ _ _ q (sym c.same_section.ensures ∙ c.if-same_section.true) c.mark.ensures

pub returns-else-same_section : goal.returns-else-same_section
returns-else-same_section c = λ r i q. step_other r _ _ i _ _ q (sym c.same_section.ensures ∙ c.if-same_section.false)
