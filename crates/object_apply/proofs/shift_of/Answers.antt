use Rattle.std.proofs.Common.{arith}
use Rattle.object_apply.proofs.Amounts.{shift-told}
use Rattle.object_apply.proofs.shift_of.Goals as goal

pub returns : goal.returns
returns c = let a = c.args in shift-told a.to.now a.from.now a.n (omega arith) c.wrapping_sub_u64.ensures.value
