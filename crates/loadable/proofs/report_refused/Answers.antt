use Rattle.loadable.proofs.report_refused.Goals as goal

pub returns : goal.returns
returns c = rw c.refusal_head.ensures
