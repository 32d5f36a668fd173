use Rattle.std.proofs.Common.{arith}
use Rattle.branch.proofs.Computed.{range-step, range-low, range-middle, range-high}
use Rattle.branch.proofs.is_in_range.Goals as goal

pub returns-then-s-ne0 : goal.returns-then-s-ne0
returns-then-s-ne0 c = range-step c.args.s.high c.args.s.low (omega arith) (omega arith) c.if-s-ne0.true

pub returns-then-s-eq0 : goal.returns-then-s-eq0
returns-then-s-eq0 c = range-low c.args.s.high c.args.s.low (omega arith) (omega arith) (omega arith) c.if-s-eq0.true

pub returns-then-s-ne4294967295 : goal.returns-then-s-ne4294967295
returns-then-s-ne4294967295 c = range-middle c.args.s.high c.args.s.low (omega arith) (omega arith) c.if-s-eq0.false c.if-s-ne4294967295.true

pub returns : goal.returns
returns c = range-high c.args.s.high c.args.s.low (omega arith) (omega arith) (omega arith) (omega arith)
