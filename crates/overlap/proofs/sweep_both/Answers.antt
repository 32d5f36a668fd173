use Rattle.overlap.proofs.CellLaws.{sections-first}
use Rattle.overlap.proofs.sweep_both.Goals as goal

pub returns : goal.returns
returns c = sections-first _ _ _ _ _ _ _ c.requires.readable c.sweep-a.ensures c.sweep.ensures
