use Rattle.std.proofs.Common.{rules}
use Prim.Native.Nat.{◌+◌}
use native.Mathlib.Nat.{zero-add}
use mathlib.Core.Path.{◌∙◌, sym}
use native.Mathlib.Omega.{arith}
use Rattle.word.proofs.Zero.{zero-block, no_zero}
use Rattle.word.proofs.skip_blocks.Goals as goal

pub loop-at-init : goal.loop-at-init
loop-at-init c = (search rules, rw zero-add)

pub returns-then-has_zero-clause-skipped : goal.returns-then-has_zero-clause-skipped
returns-then-has_zero-clause-skipped c = c.loop-at.invariant.1

pub loop-at-preserved : goal.loop-at-preserved
loop-at-preserved c = let a = c.args in let l = c.loop-at in (search rules, omega (arith, zero-block a.s.now l.at (l.at + a.n) (search rules) (search rules) (no_zero _ (sym c.has_zero.ensures ∙ c.if-has_zero.false))))
