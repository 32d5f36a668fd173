use mathlib.Core.Path.{refl}
use native.Mathlib.Omega.{arith}
use Rattle.import_id.proofs.Strings.{start-next, string-ends}
use Rattle.import_id.specs.Import.{string_start}
use Rattle.import_id.proofs.string_start.Goals as goal

pub loop-k-init : goal.loop-k-init
unfolding string_start
loop-k-init c = record { start = refl; inside = omega arith }

pub overflow_add-at : goal.overflow_add-at
overflow_add-at c = omega (arith, string-ends c.args.s.now c.loop-k._k c.loop-k.invariant.start c.first_zero.ensures (omega arith))

pub overflow_add-at-in-loop-k : goal.overflow_add-at-in-loop-k
overflow_add-at-in-loop-k c = omega (arith, string-ends c.args.s.now c.loop-k._k c.loop-k.invariant.start c.first_zero.ensures (omega arith))

pub loop-k-preserved : goal.loop-k-preserved
loop-k-preserved c = record {
  start = start-next c.args.s.now c.loop-k._k c.loop-k.invariant.start c.first_zero.ensures;
  inside = omega (arith, string-ends c.args.s.now c.loop-k._k c.loop-k.invariant.start c.first_zero.ensures (omega arith));
}
