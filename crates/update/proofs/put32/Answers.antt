use Rattle.update.proofs.Laws.{put-split}
use Rattle.update.proofs.put32.Goals as goal

pub returns : goal.returns
returns c = let a = c.args in cc (put-split 2 2 a.off a.v a.s.now)
