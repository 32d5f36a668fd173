use Rattle.std.proofs.Common.{rules}
use Rattle.std.proofs.Common.{◌∙◌, arith, rules}
use Rattle.update.proofs.Laws.{put-difference}
use Rattle.update.proofs.sub32.Goals as goal

pub returns : goal.returns
returns c = let a = c.args in let r = c.wrapping_sub_u32.result in c.put32.ensures ∙ put-difference 4 a.off a.d r a.s.now (search rules) (omega arith)
