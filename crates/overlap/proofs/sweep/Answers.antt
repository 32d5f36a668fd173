use mathlib.Core.Path.{◌∙◌}
use Rattle.overlap.proofs.CellLaws.{sweep-turn}
use Rattle.overlap.proofs.sweep.Goals as goal

pub loop-base-preserved : goal.loop-base-preserved
loop-base-preserved c = (c.pass-a.auto.cells ∙ c.loop-base.invariant.0, c.loop-base.invariant.1, sweep-turn _ _ _ _ _ _ _ _ c.loop-base.invariant.2 c.pass-a.ensures)
