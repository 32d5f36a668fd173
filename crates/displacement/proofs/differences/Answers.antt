use Rattle.std.proofs.Common.{arith}
use Rattle.apply.proofs.Stands.{difference-stands}
use Rattle.displacement.proofs.differences.Goals as goal

pub returns : goal.returns
returns c = record { text = difference-stands _ _ _ (omega arith) c.wrapping_sub_u64-t.ensures.value; dat = difference-stands _ _ _ (omega arith) c.wrapping_sub_u64-d.ensures.value; bss = difference-stands _ _ _ (omega arith) c.wrapping_sub_u64-d.ensures.value }
