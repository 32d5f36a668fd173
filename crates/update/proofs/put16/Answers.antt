use Rattle.update.proofs.Laws.{put-split}
use Rattle.update.proofs.put16.Goals as goal

pub returns : goal.returns
returns c = let a = c.args in cc (put-split 1 1 a.off a.v a.s.now)
