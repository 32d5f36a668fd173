use Rattle.object.proofs.table_verdict.Goals as goal
use Rattle.refusal.proofs.Order.{handed}

pub returns-in_err-a : goal.returns-in_err-a
returns-in_err-a c = rw (handed c.from_residual.ensures) (rw c.in_err-a.was)
