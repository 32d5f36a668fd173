use lib.ListN.{drop}
use lib.Seq.{paste, paste-zero}
use mathlib.Core.Path.{◌≡◌, ◌∙◌, ap}
use native.Mathlib.Omega.{arith}
use Rattle.object_raw.proofs.Bytes.{copy-turn}
use Rattle.object_raw.proofs.copy_part.Goals as goal

pub loop-i-init : goal.loop-i-init
loop-i-init c = paste-zero c.args.out.now c.args.place (drop c.args.at c.args.file.now)

pub loop-i-preserved : goal.loop-i-preserved
loop-i-preserved c = let a = c.args in copy-turn a.out.now _ a.file.now a.place a.at a.n _ c.loop-i.invariant c.loop-i-test.true c.requires.1 c.requires.0

pub returns : goal.returns
returns c = let a = c.args in let e : c.loop-i.i ≡ a.n = omega (arith, c.loop-i-test.false, c.loop-i.auto.i-end) in c.loop-i.invariant ∙ ap (paste a.out.now a.place (drop a.at a.file.now)) e
