use Rattle.std.proofs.Common.{◌∙◌, arith}
use Rattle.update.proofs.Laws.{put-sum}
use Rattle.update.proofs.add32.Goals as goal

pub returns : goal.returns
returns c = let a = c.args in let r = c.wrapping_add_u32.result in c.put32.ensures ∙ put-sum 4 a.off a.d r a.s.now (omega arith)
