use lib.ListN.{drop}
use lib.Seq.{paste-zero}
use native.Mathlib.Omega.{arith}
use Rattle.raw_image.proofs.Bytes.{copy-end, copy-turn}
use Rattle.raw_image.proofs.copy_bytes.Goals as goal

pub loop-i-init : goal.loop-i-init
loop-i-init c = paste-zero c.args.dst.now 0 (drop c.args.at c.args.file.now)

pub loop-i-preserved : goal.loop-i-preserved
loop-i-preserved c = copy-turn c.args.dst.now _ _ _ c.args.file.now _ c.loop-i.invariant c.loop-i-test.true c.requires.1 c.requires.0

pub returns : goal.returns
returns c = copy-end c.args.dst.now _ c.args.n c.loop-i.i _ c.loop-i.invariant (omega (arith, c.loop-i-test.false, c.loop-i.auto.i-end))
