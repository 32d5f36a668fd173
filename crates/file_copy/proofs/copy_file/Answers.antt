use mathlib.Core.Path.{◌∙◌}
use native.Mathlib.Omega.{arith}
use Rattle.file_copy.proofs.Copy.{copy-turn, copy-end}
use Rattle.file_copy.proofs.copy_file.Goals as goal

pub loop-i-init : goal.loop-i-init
loop-i-init c = λ k h. absurd (omega arith)

pub loop-i-preserved : goal.loop-i-preserved
loop-i-preserved c = let l = c.loop-i in copy-turn c.args.file.now l.copy l.i (l.auto.copy ∙ c.requires) c.loop-i-test.true l.invariant

pub returns : goal.returns
returns c = let l = c.loop-i in copy-end c.args.file.now l.copy l.i (l.auto.copy ∙ c.requires) c.loop-i-test.false l.invariant
