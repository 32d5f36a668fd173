use Rattle.std.proofs.Common.{rules}
use native.Mathlib.Nat.{add-zero, sub-zero}
use Prim.Native.Nat.{◌+◌, ◌*◌}
use Rattle.record.proofs.Hex.{byte_in-lt}
use Rattle.record.proofs.Judge.{scan-sum, scan-miss, scan-end}
use native.Mathlib.Omega.{arith}
use Rattle.record_line.proofs.scan_run.Goals as goal

pub loop-i-init : goal.loop-i-init
loop-i-init c = let a = c.args in (rw (add-zero a.p, sub-zero a.n) (omega arith), rw (add-zero a.p, sub-zero a.n) (omega arith), omega arith, omega arith)

pub loop-i-preserved : goal.loop-i-preserved
loop-i-preserved c = let a = c.args in let l = c.loop-i in let b = byte_in-lt a.t.now (a.p + 2 * l.i) in let h = c.loop-i-test.true in let m = rw c.byte_at-b.ensures at c.miss_hex-wrong.ensures.0 in (omega (arith, l.invariant.0, c.byte_at-b.ensures, scan-sum a.t.now a.p a.n l.i h), omega (arith, l.invariant.1, scan-miss a.t.now a.p a.n l.i h), omega (arith, l.invariant.2, c.byte_at-b.ensures), omega (arith, l.invariant.3, c.miss_hex-wrong.ensures.1))

pub returns : goal.returns
returns c = let a = c.args in let l = c.loop-i in let e = scan-end a.t.now a.p a.n l.i (search rules) in (omega (arith, l.invariant.0, e.0), omega (arith, l.invariant.1, e.1), omega (arith, l.invariant.2), omega (arith, l.invariant.3))
