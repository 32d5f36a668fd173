use Rattle.std.proofs.Common.{rules}
use native.Mathlib.Omega.{arith}
use Rattle.word.proofs.Zero.{zeros-more, zeros-end, zeros-few}
use Rattle.word.proofs.zeros_in.Goals as goal

pub overflow_add-n : goal.overflow_add-n
overflow_add-n c = let l = c.loop-b in let s = c.args.block.now in omega (arith, zeros-more s l.b-index (search rules), zeros-few s)

pub loop-b-preserved : goal.loop-b-preserved
loop-b-preserved c = let l = c.loop-b in let s = c.args.block.now in omega (arith, zeros-more s l.b-index (search rules))

pub returns : goal.returns
returns c = let l = c.loop-b in omega (arith, zeros-end c.args.block.now l.b-index (search rules))
