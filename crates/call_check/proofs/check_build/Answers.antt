use Rattle.history.specs.Call.{call_check}
use Rattle.call_check.proofs.Checks.{accepted-here, refused-here, room-sizes}
use Rattle.call_check.proofs.check_build.Goals as goal
use Rattle.refusal.proofs.Order.{handed}
use mathlib.Core.Path.{refl}

pub returns-in_err-check_plan : goal.returns-in_err-check_plan
unfolding call_check
returns-in_err-check_plan c = rw (handed c.from_residual.ensures) (refused-here _ c.in_err-check_plan.ensures refl refl)

pub returns : goal.returns
unfolding call_check
returns c = accepted-here _ c.in_ok-check_plan.ensures refl refl (room-sizes _ _ c.requires _ _ c.check_room.ensures)
