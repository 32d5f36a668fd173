use Rattle.record.proofs.Judge.{miss-yes, miss-no}
use native.Mathlib.Omega.{arith}
use Rattle.record.proofs.miss.Goals as goal

pub returns-then-t-p : goal.returns-then-t-p
returns-then-t-p c = (miss-yes c.args.t.now c.args.p c.args.b c.if-t-p.true, omega arith)

pub returns-else-t-p : goal.returns-else-t-p
returns-else-t-p c = (miss-no c.args.t.now c.args.p c.args.b c.if-t-p.false, omega arith)
