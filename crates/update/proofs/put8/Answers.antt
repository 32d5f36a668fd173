use Rattle.std.proofs.Common.{sym, arith}
use Rattle.update.proofs.Laws.{put_one}
use Rattle.update.proofs.put8.Goals as goal

pub returns : goal.returns
returns c = sym (put_one c.args.off c.args.v c.args.s.now (omega arith))
