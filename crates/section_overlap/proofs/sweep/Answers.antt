use native.Mathlib.Omega.{arith}
use mathlib.Core.Path.{◌∙◌, refl}
use Rattle.section_overlap.proofs.Readable.{room, above}
use Rattle.section_overlap.proofs.CellLaws.{sweep-none, sweep-turn, sweep-end, sweep-first}
use Rattle.section_overlap.proofs.sweep.Goals as goal

pub loop-base-init : goal.loop-base-init
loop-base-init c = (refl, refl, refl, sweep-none _ _ _ (λ i l h. above _ _ _ _ i c.requires.readable l h))

pub loop-base-preserved : goal.loop-base-preserved
loop-base-preserved c = (c.pass-a.auto.cells ∙ c.loop-base.invariant.0, c.loop-base.invariant.1, c.loop-base.invariant.2, sweep-turn _ _ _ _ _ _ _ c.loop-base.invariant.3 c.pass-a.ensures)

pub returns : goal.returns
returns c = sweep-first _ _ _ _ (sweep-end _ _ _ _ _ c.loop-base-test.false c.loop-base.invariant.3) (λ i l. omega (arith, c.loop-base.invariant.1, room _ _ _ _ i c.requires.readable l))
