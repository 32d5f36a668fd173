use Rattle.update.proofs.Laws.{put-split}
use Rattle.update.proofs.put64.Goals as goal

pub returns : goal.returns
returns c = let a = c.args in cc (put-split 4 4 a.off a.v a.s.now)
