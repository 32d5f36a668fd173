use native.Mathlib.Omega.{arith}
use Rattle.sheet.proofs.Answers.{room-enough, unwritten, written}
use Rattle.plan_sheet.proofs.write_sheet.Goals as goal
use Rattle.refusal.proofs.Order.{handed}
use mathlib.Core.Path.{refl}

pub returns-in_err-check_write : goal.returns-in_err-check_write
returns-in_err-check_write c = rw (handed c.from_residual.ensures) (let a = c.args in let told = unwritten a.text.0 a.«data».0 a.list.now a.sheet.now c.in_err-check_write.ensures refl in record { cause = told.0; report = told.1.0; sheet = told.1.1 })

pub overflow_cast-list : goal.overflow_cast-list
overflow_cast-list c = let a = c.args in omega (arith, room-enough a.list.now a.sheet.now c.in_ok-check_write.ensures refl)

pub write_head-requires : goal.write_head-requires
write_head-requires c = let a = c.args in omega (arith, room-enough a.list.now a.sheet.now c.in_ok-check_write.ensures refl)

pub write_list-requires : goal.write_list-requires
write_list-requires c = let a = c.args in omega (arith, room-enough a.list.now a.sheet.now c.in_ok-check_write.ensures refl)

pub returns : goal.returns
returns c = let a = c.args in let told = written a.text.0 a.«data».0 a.list.now a.sheet.now c.in_ok-check_write.ensures refl c.write_head.ensures (rw c.head_length.ensures at c.write_list.ensures) in record { cause = told.0; report = told.1.0; sheet = told.1.1 }
