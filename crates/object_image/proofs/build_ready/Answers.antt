use Rattle.std.proofs.Common.{rules}
use mathlib.Core.Path.{◌∙◌}
use Rattle.object_plan.proofs.Ready.{sections-few}
use Rattle.object_image.proofs.Calls.{build-planless, build-known, build-out, build-written}
use Rattle.object_image.proofs.build_ready.Goals as goal
use Rattle.refusal.proofs.Order.{handed}
use mathlib.Core.Path.{refl}

pub returns-in_err-check_plan : goal.returns-in_err-check_plan
returns-in_err-check_plan c = rw (handed c.from_residual.ensures) (let a = c.args in let r = c.requires in let told = build-planless a.file.now a.y a.t r a.plan.now a.buffer.now c.in_err-check_plan.ensures refl refl in record { cause = told.0; image = told.1 })

pub plan_places-to-requires : goal.plan_places-to-requires
plan_places-to-requires c = let a = c.args in let r = c.requires in (sections-few a.file.now a.y a.t r, (build-known a.file.now a.y a.t r a.plan.now a.buffer.now c.in_ok-check_plan.ensures refl refl).0)

pub recorded_places-from-requires : goal.recorded_places-from-requires
recorded_places-from-requires c = let a = c.args in let r = c.requires in sections-few a.file.now a.y a.t r

pub returns-in_err-check_built : goal.returns-in_err-check_built
returns-in_err-check_built c = rw (handed c.from_residual-in_err-check_built.ensures) (let a = c.args in let r = c.requires in let told = build-out a.file.now a.y a.t r a.plan.now a.buffer.now c.in_ok-check_plan.ensures refl refl c.plan_places-to.ensures c.recorded_places-from.ensures c.in_err-check_built.ensures refl refl in record { cause = told.0; image = told.1 })

pub copy_raw-requires-clause-object_ready : goal.copy_raw-requires-clause-object_ready
copy_raw-requires-clause-object_ready c = let a = c.args in let r = c.requires in r

pub copy_raw-requires-clause-out_len : goal.copy_raw-requires-clause-out_len
copy_raw-requires-clause-out_len c = let a = c.args in let r = c.requires in (build-known a.file.now a.y a.t r a.plan.now a.buffer.now c.in_ok-check_plan.ensures refl refl).1

pub apply_entries-requires-clause-object_ready : goal.apply_entries-requires-clause-object_ready
apply_entries-requires-clause-object_ready c = let a = c.args in let r = c.requires in r

pub apply_entries-requires-clause-to_len : goal.apply_entries-requires-clause-to_len
apply_entries-requires-clause-to_len c = let a = c.args in let r = c.requires in (search rules, search rules, c.copy_raw.auto.out ∙ (build-known a.file.now a.y a.t r a.plan.now a.buffer.now c.in_ok-check_plan.ensures refl refl).1)

pub returns : goal.returns
returns c = let a = c.args in let r = c.requires in let told = build-written a.file.now a.y a.t r a.plan.now a.buffer.now c.in_ok-check_plan.ensures refl refl c.plan_places-to.ensures c.recorded_places-from.ensures c.in_ok-check_built.ensures refl refl c.copy_raw.ensures c.apply_entries.ensures in record { cause = told.0; image = told.1 }
