use Rattle.std.proofs.Common.{rules}
use native.Mathlib.Nat.{add-zero, sub-zero}
use Prim.Native.Nat.{◌+◌}
use Rattle.record.proofs.Judge.{fill-next, fill_end}
use mathlib.Core.Path.{◌∙◌, sym, refl}
use Rattle.record_line.proofs.fill_run.Goals as goal

pub loop-i-init : goal.loop-i-init
loop-i-init c = let a = c.args in rw (add-zero a.to, add-zero a.p, sub-zero a.n) refl

pub loop-i-preserved : goal.loop-i-preserved
loop-i-preserved c = let a = c.args in let l = c.loop-i in rw c.byte_at.ensures (fill-next a.t.now l.dst a.p a.n a.to l.i c.loop-i-test.true) ∙ l.invariant

pub returns : goal.returns
returns c = let a = c.args in let l = c.loop-i in sym (fill_end a.t.now l.dst a.p a.n (a.to + l.i) l.i (search rules)) ∙ l.invariant
