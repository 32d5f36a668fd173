use Rattle.section_overlap.proofs.CellLaws.{step_same}
use Rattle.section_overlap.proofs.step.Goals as goal

pub returns : goal.returns
returns c = λ r i q. step_same r _ i _ _ _ _ q c.mark.ensures
