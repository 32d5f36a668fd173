use Prim.Native.Nat.{◌-◌}
use lib.ListN.{length, take, drop}
use mathlib.Core.Path.{ap}
use native.Mathlib.Omega.{arith}
use Rattle.word.specs.Zero.{first_zero}
use Rattle.word.proofs.Zero.{zero-within, rest_all}
use Rattle.word.proofs.far_zero.Goals as goal

pub overflow_add-result-2 : goal.overflow_add-result-2
overflow_add-result-2 c = let s = c.args.s.now in let far = c.skip_blocks-far.result in let rest = take (length s - far) (drop far s) in omega (arith, ap first_zero (rest_all s far), ap first_zero (rest_all rest c.skip_blocks-near.result), zero-within s)

pub returns : goal.returns
returns c = let s = c.args.s.now in let far = c.skip_blocks-far.result in let rest = take (length s - far) (drop far s) in omega (arith, ap first_zero (rest_all s far), ap first_zero (rest_all rest c.skip_blocks-near.result))
