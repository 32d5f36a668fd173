use native.Mathlib.Omega.{arith}
use Rattle.word.proofs.Test.{found}
use Rattle.csect_lookup.proofs.Answers.{label-before, label-loose, label-held}
use Rattle.csect_lookup.proofs.judge_label.Goals as goal

pub returns-then-i-c : goal.returns-then-i-c
returns-then-i-c c = rw (← label-before c.args.file.now c.args.t c.args.i c.args.c (omega arith))

pub returns-then-is_sd : goal.returns-then-is_sd
returns-then-is_sd c = rw (← label-held c.args.file.now c.args.t c.args.i c.args.c c.own_csect-container.ensures c.if-i-c.false (found c.is_sd.ensures c.if-is_sd.true))

pub returns : goal.returns
returns c = rw (← label-loose c.args.file.now c.args.t c.args.i c.args.c c.own_csect-container.ensures (found c.is_sd.ensures c.if-is_sd.false))
