use Rattle.refusal.proofs.Order.{handed}
use Rattle.line_lookup.proofs.find_in.Goals as goal

pub returns-in_err-found : goal.returns-in_err-found
returns-in_err-found c = rw (handed c.from_residual.ensures, ← c.in_err-found.ensures)

pub returns : goal.returns
returns c = rw (← c.in_ok-found.ensures)
