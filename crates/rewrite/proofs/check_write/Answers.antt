use mathlib.Core.Path.{sym, ◌∙◌}
use Rattle.rewrite.proofs.Write.{ready-valid, ready-inside, plan-refused, shared-refused, all-accepted, room-refused}
use Rattle.rewrite.proofs.check_write.Goals as goal
use Rattle.refusal.proofs.Order.{handed}
use mathlib.Core.Path.{refl}

pub check_plan-requires : goal.check_plan-requires
check_plan-requires c = ready-valid _ _ _ c.requires

pub returns-in_err-check_plan : goal.returns-in_err-check_plan
returns-in_err-check_plan c = rw (handed c.from_residual.ensures) (plan-refused _ _ _ _ _ c.in_err-check_plan.ensures (refl))

pub shares-requires : goal.shares-requires
shares-requires c = (ready-inside _ _ _ c.requires, ready-valid _ _ _ c.requires)

pub returns-then-shares : goal.returns-then-shares
returns-then-shares c = shared-refused _ _ _ _ _ c.in_ok-check_plan.ensures (refl) (sym c.shares.ensures ∙ c.if-shares.true)

pub returns-then-output-file : goal.returns-then-output-file
returns-then-output-file c = all-accepted _ _ _ _ _ c.in_ok-check_plan.ensures (refl) (sym c.shares.ensures ∙ c.if-shares.false) c.if-output-file.true

pub returns : goal.returns
returns c = room-refused _ _ _ _ _ c.in_ok-check_plan.ensures (refl) (sym c.shares.ensures ∙ c.if-shares.false) c.if-output-file.false
