use Rattle.std.proofs.Common.{arith}
use Rattle.branch.proofs.Computed.{minus-borrow, minus-none}
use Rattle.branch.proofs.minus.Goals as goal

pub returns-then-s-a : goal.returns-then-s-a
returns-then-s-a c = minus-borrow c.args.s.high c.args.s.low c.args.a (omega arith) (omega arith) (omega arith) c.wrapping_sub_u64-low.result c.wrapping_sub_u32.result (omega arith) (omega arith) c.wrapping_sub_u64-low.ensures.value c.if-s-a.true c.wrapping_sub_u32.ensures.value

pub returns : goal.returns
returns c = minus-none c.args.s.high c.args.s.low c.args.a (omega arith) (omega arith) (omega arith) c.wrapping_sub_u64-low.result (omega arith) c.wrapping_sub_u64-low.ensures.value (omega arith)
