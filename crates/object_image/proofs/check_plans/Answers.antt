use Rattle.refusal.proofs.Order.{told-accepted}
use Rattle.object_plan.proofs.Ready.{sections-few}
use Rattle.object_image.proofs.Checks.{refused-here, accepted-here, list-judged, fit-judged, list-told}
use Rattle.object_image.proofs.check_plans.Goals as goal
use Rattle.refusal.proofs.Order.{handed}
use mathlib.Core.Path.{refl}

pub returns-in_err-check_list : goal.returns-in_err-check_list
returns-in_err-check_list c = rw (handed c.from_residual.ensures) (let a = c.args in let r = c.requires in refused-here _ (list-judged a.file.now a.y a.t r a.from.now c.in_err-check_list.ensures) refl refl)

pub returns-in_err-check_list-2 : goal.returns-in_err-check_list-2
returns-in_err-check_list-2 c = rw (handed c.from_residual-in_err-check_list-2.ensures) (let a = c.args in let r = c.requires in accepted-here _ (list-judged a.file.now a.y a.t r a.from.now c.in_ok-check_list.ensures) refl refl (refused-here _ (list-judged a.file.now a.y a.t r a.to.now c.in_err-check_list-2.ensures) refl refl))

pub check_fit-requires : goal.check_fit-requires
check_fit-requires c = let a = c.args in let r = c.requires in (sections-few a.file.now a.y a.t r, (list-told a.file.now a.y a.t r a.from.now (told-accepted (list-judged a.file.now a.y a.t r a.from.now c.in_ok-check_list.ensures) refl refl)))

pub returns-in_err-check_fit : goal.returns-in_err-check_fit
returns-in_err-check_fit c = rw (handed c.from_residual-in_err-check_fit.ensures) (let a = c.args in let r = c.requires in accepted-here _ (list-judged a.file.now a.y a.t r a.from.now c.in_ok-check_list.ensures) refl refl (accepted-here _ (list-judged a.file.now a.y a.t r a.to.now c.in_ok-check_list-2.ensures) refl refl (refused-here _ (fit-judged a.file.now a.y a.t r a.from.now c.in_err-check_fit.ensures) refl refl)))

pub check_fit-requires-2 : goal.check_fit-requires-2
check_fit-requires-2 c = let a = c.args in let r = c.requires in (sections-few a.file.now a.y a.t r, (list-told a.file.now a.y a.t r a.to.now (told-accepted (list-judged a.file.now a.y a.t r a.to.now c.in_ok-check_list-2.ensures) refl refl)))

pub returns-in_err-check_fit-2 : goal.returns-in_err-check_fit-2
returns-in_err-check_fit-2 c = rw (handed c.from_residual-in_err-check_fit-2.ensures) (let a = c.args in let r = c.requires in accepted-here _ (list-judged a.file.now a.y a.t r a.from.now c.in_ok-check_list.ensures) refl refl (accepted-here _ (list-judged a.file.now a.y a.t r a.to.now c.in_ok-check_list-2.ensures) refl refl (accepted-here _ (fit-judged a.file.now a.y a.t r a.from.now c.in_ok-check_fit.ensures) refl refl (refused-here _ (fit-judged a.file.now a.y a.t r a.to.now c.in_err-check_fit-2.ensures) refl refl))))

pub returns : goal.returns
returns c = let a = c.args in let r = c.requires in accepted-here _ (list-judged a.file.now a.y a.t r a.from.now c.in_ok-check_list.ensures) refl refl (accepted-here _ (list-judged a.file.now a.y a.t r a.to.now c.in_ok-check_list-2.ensures) refl refl (accepted-here _ (fit-judged a.file.now a.y a.t r a.from.now c.in_ok-check_fit.ensures) refl refl (accepted-here _ (fit-judged a.file.now a.y a.t r a.to.now c.in_ok-check_fit-2.ensures) refl refl c.check_room.ensures)))
