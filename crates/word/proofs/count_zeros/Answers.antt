use Rattle.std.proofs.Common.{rules}
use Prim.Native.Nat.{◌+◌, ◌-◌}
use lib.ListN.{length}
use native.Mathlib.Omega.{arith}
use Rattle.word.proofs.Number.{length-field}
use Rattle.word.proofs.Zero.{zeros-block, zeros-end, zeros-few}
use Rattle.word.proofs.count_zeros.Goals as goal

pub loop-at-init : goal.loop-at-init
loop-at-init c = (search rules, omega arith)

pub zeros_in-requires : goal.zeros_in-requires
zeros_in-requires c = let s = c.args.s.now in let l = c.loop-at in omega (arith, length-field (l.at + 64 - l.at) l.at s (omega arith))

pub overflow_add-n : goal.overflow_add-n
overflow_add-n c = let s = c.args.s.now in let l = c.loop-at in omega (arith, zeros-block s l.at (l.at + 64) (search rules), zeros-few s)

pub loop-at-preserved : goal.loop-at-preserved
loop-at-preserved c = let s = c.args.s.now in let l = c.loop-at in (search rules, omega (arith, zeros-block s l.at (l.at + 64) (search rules)))

pub zeros_in-requires-2 : goal.zeros_in-requires-2
zeros_in-requires-2 c = let s = c.args.s.now in let l = c.loop-at in omega (arith, length-field (length s - l.at) l.at s (omega arith))

pub overflow_add-result : goal.overflow_add-result
overflow_add-result c = let s = c.args.s.now in let l = c.loop-at in omega (arith, zeros-block s l.at (length s) (search rules), zeros-few s)

pub returns : goal.returns
returns c = let s = c.args.s.now in let l = c.loop-at in omega (arith, zeros-block s l.at (length s) (search rules), zeros-end s (length s) (search rules))
