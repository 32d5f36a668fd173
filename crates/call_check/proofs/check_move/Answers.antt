use mathlib.Core.Path.{◌∙◌}
use Rattle.call_check.proofs.Checks.{accepted-here, lists-told, move-order, refused-here, room-sizes}
use Rattle.call_check.proofs.check_move.Goals as goal
use Rattle.refusal.proofs.Order.{handed}
use mathlib.Core.Path.{refl}

pub returns-in_err-check_lists : goal.returns-in_err-check_lists
returns-in_err-check_lists c = rw (handed c.from_residual.ensures) (refused-here _ c.in_err-check_lists.ensures refl refl ∙ move-order c.args.file.now c.args.l _ _ _ _)

pub check_fits-requires-clause-valid : goal.check_fits-requires-clause-valid
check_fits-requires-clause-valid c = c.requires

pub check_fits-requires-clause-from_imports_len : goal.check_fits-requires-clause-from_imports_len
check_fits-requires-clause-from_imports_len c = lists-told _ _ _ c.in_ok-check_lists.ensures refl refl

pub returns-in_err-check_fits : goal.returns-in_err-check_fits
returns-in_err-check_fits c = rw (handed c.from_residual-in_err-check_fits.ensures) (accepted-here _ c.in_ok-check_lists.ensures refl refl (refused-here _ c.in_err-check_fits.ensures refl refl) ∙ move-order c.args.file.now c.args.l _ _ _ _)

pub returns : goal.returns
returns c = accepted-here _ c.in_ok-check_lists.ensures refl refl (accepted-here _ c.in_ok-check_fits.ensures refl refl (room-sizes _ _ c.requires _ _ c.check_room.ensures)) ∙ move-order c.args.file.now c.args.l _ _ _ _
