use Rattle.std.proofs.Common.{◌∙◌, arith}
use Rattle.update.proofs.Laws.{put-sum}
use Rattle.update.proofs.add64.Goals as goal

pub returns : goal.returns
returns c = let a = c.args in let r = c.wrapping_add_u64.result in c.put64.ensures ∙ put-sum 8 a.off a.d r a.s.now (omega arith)
