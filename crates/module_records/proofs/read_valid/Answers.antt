use Rattle.call_check.proofs.Checks.{room-sizes}
use Rattle.srecord.proofs.Checks.{read-plan, read-room, read-bad, read_done, both-range}
use mathlib.Core.Path.{◌≡◌, ◌∙◌, sym}
use native.Mathlib.Omega.{arith}
use Rattle.module_records.proofs.read_valid.Goals as goal
use Rattle.refusal.proofs.Order.{handed}
use mathlib.Core.Path.{refl}

pub returns-in_err-check_records : goal.returns-in_err-check_records
returns-in_err-check_records c = rw (handed c.from_residual.ensures) (let a = c.args in let told = read-plan _ _ a.records.now a.text.now a.«data».now c.in_err-check_records.ensures refl refl in record { cause = told.0; text = told.1.0; «data» = told.1.1 })

pub returns-in_err-check_room : goal.returns-in_err-check_room
returns-in_err-check_room c = rw (handed c.from_residual-in_err-check_room.ensures) (let a = c.args in let told = read-room _ _ a.records.now a.text.now a.«data».now c.in_ok-check_records.ensures refl refl (room-sizes _ _ c.requires _ _ c.in_err-check_room.ensures) refl refl in record { cause = told.0; text = told.1.0; «data» = told.1.1 })

pub read_text-bad-requires : goal.read_text-bad-requires
read_text-bad-requires c = both-range _ _ _ _ c.in_ok-check_records.ensures refl refl (room-sizes _ _ c.requires _ _ c.in_ok-check_room.ensures) refl refl

pub returns-then-bad-ne0 : goal.returns-then-bad-ne0
returns-then-bad-ne0 c = let a = c.args in let E = c.entry_address-entry.ensures a.file.now a.imports.now in let told = read-bad _ _ a.records.now a.text.now a.«data».now c.read_text-bad.result _ _ c.in_ok-check_records.ensures refl refl (room-sizes _ _ c.requires _ _ c.in_ok-check_room.ensures) refl refl (rw E at c.read_text-bad.ensures.bad) (omega arith) (rw E at c.read_text-bad.ensures.text) (rw E at c.read_text-bad.ensures.«data») in record { cause = told.0; text = told.1.0; «data» = told.1.1 }

pub returns : goal.returns
returns c = let a = c.args in let E = c.entry_address-entry.ensures a.file.now a.imports.now in let z : c.read_text-bad.result ≡ 0 = omega arith in let told = read_done _ _ a.records.now a.text.now a.«data».now _ _ c.in_ok-check_records.ensures refl refl (room-sizes _ _ c.requires _ _ c.in_ok-check_room.ensures) refl refl (sym z ∙ rw E at c.read_text-bad.ensures.bad) (rw (E, z) at c.read_text-bad.ensures.text) (rw (E, z) at c.read_text-bad.ensures.«data») in record { cause = told.0; text = told.1.0; «data» = told.1.1 }
