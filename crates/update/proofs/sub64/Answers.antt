use Rattle.std.proofs.Common.{rules}
use Rattle.std.proofs.Common.{◌∙◌, arith, rules}
use Rattle.update.proofs.Laws.{put-difference}
use Rattle.update.proofs.sub64.Goals as goal

pub returns : goal.returns
returns c = let a = c.args in let r = c.wrapping_sub_u64.result in c.put64.ensures ∙ put-difference 8 a.off a.d r a.s.now (search rules) (omega arith)
