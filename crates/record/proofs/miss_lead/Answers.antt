use Rattle.std.proofs.Common.{rules}
use Rattle.record.proofs.Judge.{miss-lead}
use Rattle.record.proofs.miss_lead.Goals as goal

pub returns : goal.returns
returns c = let a = c.args in (miss-lead a.t.now a.p a.kind a.address a.n _ _ _ _ _ _ _ c.miss-start.ensures.0 c.miss-type_of.ensures.0 c.miss_hex-count.ensures.0 c.miss_hex-a.ensures.0 c.miss_hex-b.ensures.0 c.miss_hex-c.ensures.0 c.miss_hex-d.ensures.0, search rules)
