use Rattle.replay.proofs.Answer.{reported}
use Rattle.replay.proofs.report_replay.Goals as goal

pub returns : goal.returns
returns c = reported _ c.args.a _ c.report_call-last.ensures
