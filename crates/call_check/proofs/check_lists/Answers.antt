use Rattle.call_check.proofs.Checks.{accepted-here, refused-here}
use Rattle.call_check.proofs.check_lists.Goals as goal
use Rattle.refusal.proofs.Order.{handed}
use mathlib.Core.Path.{refl}

pub returns-in_err-check_list : goal.returns-in_err-check_list
returns-in_err-check_list c = rw (handed c.from_residual.ensures) (refused-here _ c.in_err-check_list.ensures refl refl)

pub returns : goal.returns
returns c = accepted-here _ c.in_ok-check_list.ensures refl refl c.check_list-2.ensures
