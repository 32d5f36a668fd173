use Rattle.std.proofs.Common.{rules}
use native.Mathlib.Nat.{add-zero}
use Rattle.update.proofs.Stores.{sets-whole}
use Rattle.record.specs.Count.{values_at}
use Rattle.record.proofs.Values.{length-values, value-stored, value-missed, values-end}
use mathlib.Core.Path.{◌∙◌, sym, refl}
use native.Mathlib.Omega.{arith}
use Rattle.record_line.proofs.put_values.Goals as goal

pub loop-i-init : goal.loop-i-init
loop-i-init c = let a = c.args in (rw (add-zero a.p) refl, rw (add-zero a.p) (omega arith), omega arith)

pub loop-i-preserved : goal.loop-i-preserved
loop-i-preserved c = let a = c.args in let l = c.loop-i in let h = c.loop-i-test.true in let x = c.value-x.ensures.0 in let m = rw (c.digit.ensures, x) at c.miss-wrong.ensures.0 in (rw x (value-stored a.t.now l.v a.p 64 l.i h) ∙ l.invariant.0, omega (arith, m, l.invariant.1, value-missed a.t.now a.p 64 l.i h), omega (arith, c.miss-wrong.ensures.1, l.invariant.2))

pub returns-clause-values : goal.returns-clause-values
returns-clause-values c = let a = c.args in let l = c.loop-i in let e = values-end a.t.now l.v a.p 64 l.i l.i (search rules) in sym e.0 ∙ l.invariant.0 ∙ sets-whole a.v.now (values_at a.t.now a.p 64) (omega (arith, length-values a.t.now a.p 64))

pub returns-clause-wrong : goal.returns-clause-wrong
returns-clause-wrong c = let a = c.args in let l = c.loop-i in let e = values-end a.t.now l.v a.p 64 l.i l.i (search rules) in (omega (arith, e.1, l.invariant.1), omega (arith, l.invariant.2))
