use mathlib.Core.Path.{refl}
use Rattle.table_replay.proofs.number_of.Goals as goal
use Rattle.refusal.proofs.Order.{handed}

pub returns-in_err-v : goal.returns-in_err-v
returns-in_err-v c = rw (handed c.from_residual.ensures) (rw c.in_err-v.was refl)
