use Rattle.std.proofs.Common.{refl, arith}
use Rattle.branch.proofs.Computed.{value-forward, value-back}
use Rattle.branch.proofs.value_of.Goals as goal

pub returns-then-n-lt33554432 : goal.returns-then-n-lt33554432
returns-then-n-lt33554432 c = value-forward c.args.v _ refl c.if-n-lt33554432.true

pub returns : goal.returns
returns c = value-back c.args.v _ refl (omega arith)
