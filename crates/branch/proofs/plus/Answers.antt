use Rattle.std.proofs.Common.{arith}
use Rattle.branch.proofs.Computed.{plus-carry, plus_none}
use Rattle.branch.proofs.plus.Goals as goal

pub returns-then-low-a : goal.returns-then-low-a
returns-then-low-a c = plus-carry c.args.s.high c.args.s.low c.args.a (omega arith) (omega arith) (omega arith) _ _ c.wrapping_add_u64-low.ensures.value c.if-low-a.true c.wrapping_add_u32.ensures.value

pub returns : goal.returns
returns c = plus_none c.args.s.high c.args.s.low c.args.a (omega arith) (omega arith) (omega arith) _ c.wrapping_add_u64-low.ensures.value (omega arith)
