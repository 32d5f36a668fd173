use Rattle.line_lookup.proofs.with_format.Goals as goal
use Rattle.refusal.proofs.Order.{handed}

pub returns-in_err-t : goal.returns-in_err-t
returns-in_err-t c = rw (handed c.from_residual.ensures) (rw c.in_err-t.was)

pub returns : goal.returns
returns c = rw c.in_ok-t.was
