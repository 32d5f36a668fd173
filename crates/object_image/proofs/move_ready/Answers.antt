use Rattle.std.proofs.Common.{rules}
use Rattle.object_plan.proofs.Ready.{sections-few}
use Rattle.object_image.proofs.Calls.{move-planless, move-known, move-out, move-written}
use Rattle.object_image.proofs.move_ready.Goals as goal
use Rattle.refusal.proofs.Order.{handed}
use mathlib.Core.Path.{refl}

pub returns-in_err-check_plans : goal.returns-in_err-check_plans
returns-in_err-check_plans c = rw (handed c.from_residual.ensures) (let a = c.args in let r = c.requires in let told = move-planless a.file.now a.y a.t r a.from.now a.to.now a.buffer.now c.in_err-check_plans.ensures refl refl in record { cause = told.0; image = told.1 })

pub plan_places-new-requires : goal.plan_places-new-requires
plan_places-new-requires c = let a = c.args in let r = c.requires in (sections-few a.file.now a.y a.t r, (move-known a.file.now a.y a.t r a.from.now a.to.now a.buffer.now c.in_ok-check_plans.ensures refl refl).1)

pub plan_places-old-requires : goal.plan_places-old-requires
plan_places-old-requires c = let a = c.args in let r = c.requires in (sections-few a.file.now a.y a.t r, (move-known a.file.now a.y a.t r a.from.now a.to.now a.buffer.now c.in_ok-check_plans.ensures refl refl).0)

pub check_moved-requires : goal.check_moved-requires
check_moved-requires c = let a = c.args in let r = c.requires in (r, search rules, search rules, (move-known a.file.now a.y a.t r a.from.now a.to.now a.buffer.now c.in_ok-check_plans.ensures refl refl).2)

pub returns-in_err-check_moved : goal.returns-in_err-check_moved
returns-in_err-check_moved c = rw (handed c.from_residual-in_err-check_moved.ensures) (let a = c.args in let r = c.requires in let told = move-out a.file.now a.y a.t r a.from.now a.to.now a.buffer.now c.in_ok-check_plans.ensures refl refl c.plan_places-new.ensures c.plan_places-old.ensures c.in_err-check_moved.ensures refl refl in record { cause = told.0; image = told.1 })

pub apply_entries-requires-clause-object_ready : goal.apply_entries-requires-clause-object_ready
apply_entries-requires-clause-object_ready c = let a = c.args in let r = c.requires in r

pub apply_entries-requires-clause-to_len : goal.apply_entries-requires-clause-to_len
apply_entries-requires-clause-to_len c = let a = c.args in let r = c.requires in (search rules, search rules, (move-known a.file.now a.y a.t r a.from.now a.to.now a.buffer.now c.in_ok-check_plans.ensures refl refl).2)

pub returns : goal.returns
returns c = let a = c.args in let r = c.requires in let told = move-written a.file.now a.y a.t r a.from.now a.to.now a.buffer.now c.in_ok-check_plans.ensures refl refl c.plan_places-new.ensures c.plan_places-old.ensures c.in_ok-check_moved.ensures refl refl c.apply_entries.ensures in record { cause = told.0; image = told.1 }
