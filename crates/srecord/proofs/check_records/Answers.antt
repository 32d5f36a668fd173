use mathlib.Core.Path.{◌∙◌}
use Rattle.refusal.proofs.Order.{told-accepted}
use Rattle.call_check.proofs.Checks.{accepted-here, refused-here}
use Rattle.srecord.proofs.Checks.{records-order, size-range, clash-here, clash-none}
use Rattle.srecord.proofs.check_records.Goals as goal
use Rattle.refusal.proofs.Order.{handed}
use mathlib.Core.Path.{refl}

pub returns-in_err-check_plan : goal.returns-in_err-check_plan
returns-in_err-check_plan c = rw (handed c.from_residual.ensures) (refused-here _ c.in_err-check_plan.ensures refl refl ∙ records-order _ _ _)

pub returns-in_err-check_form : goal.returns-in_err-check_form
returns-in_err-check_form c = rw (handed c.from_residual-in_err-check_form.ensures) (accepted-here _ c.in_ok-check_plan.ensures refl refl (refused-here _ c.in_err-check_form.ensures refl refl) ∙ records-order _ _ _)

pub shares_address-requires : goal.shares_address-requires
shares_address-requires c = size-range _ _ _ c.requires (told-accepted c.in_ok-check_plan.ensures refl refl) (told-accepted c.in_ok-check_form.ensures refl refl)

pub returns-then-shares_address : goal.returns-then-shares_address
returns-then-shares_address c = accepted-here _ c.in_ok-check_plan.ensures refl refl (accepted-here _ c.in_ok-check_form.ensures refl refl (clash-here _ _ _ c.requires c.shares_address.ensures c.if-shares_address.true)) ∙ records-order _ _ _

pub returns : goal.returns
returns c = accepted-here _ c.in_ok-check_plan.ensures refl refl (accepted-here _ c.in_ok-check_form.ensures refl refl (clash-none _ _ _ c.requires c.shares_address.ensures c.if-shares_address.false)) ∙ records-order _ _ _
