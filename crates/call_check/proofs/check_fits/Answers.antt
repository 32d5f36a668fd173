use Rattle.call_check.proofs.Checks.{accepted-here, refused-here}
use Rattle.call_check.proofs.check_fits.Goals as goal
use Rattle.refusal.proofs.Order.{handed}
use mathlib.Core.Path.{refl}

pub returns-in_err-check_fit : goal.returns-in_err-check_fit
returns-in_err-check_fit c = rw (handed c.from_residual.ensures) (refused-here _ c.in_err-check_fit.ensures refl refl)

pub returns : goal.returns
returns c = accepted-here _ c.in_ok-check_fit.ensures refl refl c.check_fit-2.ensures
