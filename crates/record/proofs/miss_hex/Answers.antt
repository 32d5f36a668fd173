use Rattle.std.proofs.Common.{rules}
use Rattle.record.proofs.Judge.{miss-two}
use Rattle.record.proofs.miss_hex.Goals as goal

pub returns : goal.returns
returns c = let a = c.args in (miss-two a.t.now a.p _ _ a.b _ _ c.digit.ensures c.digit-2.ensures c.miss-high.ensures.0 c.miss-low.ensures.0, search rules)
