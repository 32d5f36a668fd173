use mathlib.Core.Path.{◌∙◌}
use Rattle.call_check.proofs.Checks.{accepted-here, list-told, plan-order, refused-here}
use Rattle.call_check.proofs.check_plan.Goals as goal
use Rattle.refusal.proofs.Order.{handed}
use mathlib.Core.Path.{refl}

pub returns-in_err-check_list : goal.returns-in_err-check_list
returns-in_err-check_list c = rw (handed c.from_residual.ensures) (let a = c.args in refused-here _ c.in_err-check_list.ensures refl refl ∙ plan-order a.file.now a.l _)

pub check_fit-requires : goal.check_fit-requires
check_fit-requires c = (c.requires, list-told _ _ c.in_ok-check_list.ensures refl refl)

pub returns : goal.returns
returns c = let a = c.args in accepted-here _ c.in_ok-check_list.ensures refl refl c.check_fit.ensures ∙ plan-order a.file.now a.l _
