use native.Mathlib.Omega.{arith}
use mathlib.Core.Path.{refl}
use Rattle.field_overlap.proofs.Readable.{offset-small}
use Rattle.overlap.proofs.CellLaws.{so-far-none, pass-stop, pass-turn, pass-end, cells-none}
use Rattle.overlap.proofs.pass.Goals as goal

pub loop-i-init : goal.loop-i-init
loop-i-init c = record {
  marked = cells-none _ _ _ c.clear.new.cells c.clear.ensures.zero;
  so_far = so-far-none _ _ _ _ _ (omega (arith, c.requires.cells_bound, c.clear.ensures.size));
}

pub step-requires : goal.step-requires
step-requires c = offset-small _ _ _ _ _ _ _ c.requires.readable c.loop-i-test.true c.place_at-e.ensures

pub returns-then-step : goal.returns-then-step
returns-then-step c = pass-stop _ _ _ _ _ _ c.clear.new.cells c.loop-i.cells _ _ _ c.loop-i-test.true c.loop-i.auto.cells c.loop-i.invariant.marked c.loop-i.invariant.so_far (c.step.ensures _ _ c.place_at-e.ensures) c.if-step.true c.clear.ensures.size

pub lower-next-requires : goal.lower-next-requires
lower-next-requires c = (offset-small _ _ _ _ _ _ _ c.requires.readable c.loop-i-test.true c.place_at-e.ensures, c.loop-i.invariant.so_far.further)

pub loop-i-preserved : goal.loop-i-preserved
loop-i-preserved c =
    let k = pass-turn _ _ _ _ _ _ _ _ c.clear.new.cells c.loop-i.cells _ _ c.loop-i.auto.cells c.loop-i.invariant.marked c.loop-i.invariant.so_far (c.step.ensures _ _ c.place_at-e.ensures) c.if-step.false c.place_at-e.ensures refl c.lower-next.ensures in
    record { marked = k.1; so_far = k.2 }

pub returns : goal.returns
returns c = pass-end _ _ _ _ _ _ _ c.clear.new.cells c.loop-i.auto.i-end c.loop-i-test.false c.loop-i.invariant.so_far c.clear.ensures.size
