use Rattle.symbol.proofs.Opened.{opened-tables}
use Rattle.object.proofs.Answer.{opened-ready}
use Rattle.object_history.specs.Call.{build}
use Rattle.object_plan.proofs.Ready.{object-ready}
use Rattle.object_image.proofs.Calls.{unopened, unaccepted, reported}
use Rattle.object_image.proofs.build_object.Goals as goal
use Rattle.refusal.proofs.Order.{handed}
use mathlib.Core.Path.{refl}

pub tables_of-t-requires : goal.tables_of-t-requires
tables_of-t-requires c = let a = c.args in opened-tables a.file.now c.open-o.ensures.cause c.in_ok-o.was

pub check_object-requires : goal.check_object-requires
check_object-requires c = let a = c.args in opened-ready a.file.now c.open-o.ensures.cause c.in_ok-o.was c.tables_of-t.ensures

pub build_ready-requires : goal.build_ready-requires
build_ready-requires c = let a = c.args in object-ready a.file.now (opened-ready a.file.now c.open-o.ensures.cause c.in_ok-o.was c.tables_of-t.ensures) c.in_ok-check_object.ensures refl

pub returns-in_err-o : goal.returns-in_err-o
returns-in_err-o c = rw (handed c.from_residual.ensures) (let a = c.args in let told = unopened a.file.now (build a.plan.now) a.buffer.now c.open-o.ensures.cause c.in_err-o.was in record { cause = told.0; report = told.1.0; image = told.1.1 })

pub returns-in_err-check_object : goal.returns-in_err-check_object
returns-in_err-check_object c = rw (handed c.from_residual-in_err-check_object.ensures) (let a = c.args in let told = unaccepted a.file.now (build a.plan.now) a.buffer.now c.open-o.ensures.cause c.in_ok-o.was c.in_err-check_object.ensures refl in record { cause = told.0; report = told.1.0; image = told.1.1 })

pub returns : goal.returns
returns c = let a = c.args in let told = reported a.file.now (build a.plan.now) a.buffer.now (c.build_ready.ensures.cause, c.build_ready.ensures.image) in record { cause = told.0; report = told.1.0; image = told.1.1 }
