use native.Mathlib.Nat.{add-zero}
use Prim.Native.Nat.{◌+◌}
use Rattle.record.proofs.Values.{joined-stored, joined_end}
use mathlib.Core.Path.{◌∙◌, sym, refl}
use native.Mathlib.Omega.{arith}
use Rattle.record_line.proofs.put_joined.Goals as goal

pub loop-i-init : goal.loop-i-init
loop-i-init c = rw (add-zero c.args.to) refl

pub loop-i-preserved : goal.loop-i-preserved
loop-i-preserved c = let a = c.args in let l = c.loop-i in joined-stored a.v.now l.dst a.to l.i (omega arith) ∙ l.invariant

pub returns : goal.returns
returns c = let a = c.args in let l = c.loop-i in sym (joined_end a.v.now l.dst (a.to + l.i) l.i (omega arith)) ∙ l.invariant
