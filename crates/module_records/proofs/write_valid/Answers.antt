use Rattle.call_check.proofs.Checks.{room-sizes}
use Rattle.srecord.proofs.Checks.{write-plan, write-room, write-buffer, write_done, both-range}
use mathlib.Core.Path.{◌∙◌, sym}
use native.Mathlib.Omega.{arith}
use Rattle.module_records.proofs.write_valid.Goals as goal
use Rattle.refusal.proofs.Order.{handed}
use mathlib.Core.Path.{refl}

pub returns-in_err-check_records : goal.returns-in_err-check_records
returns-in_err-check_records c = rw (handed c.from_residual.ensures) (let a = c.args in let told = write-plan _ _ a.text.now a.«data».now a.out.now c.in_err-check_records.ensures refl refl in record { cause = told.0; records = told.1 })

pub returns-in_err-check_room : goal.returns-in_err-check_room
returns-in_err-check_room c = rw (handed c.from_residual-in_err-check_room.ensures) (let a = c.args in let told = write-room _ _ a.text.now a.«data».now a.out.now c.in_ok-check_records.ensures refl refl (room-sizes _ _ c.requires _ _ c.in_err-check_room.ensures) refl refl in record { cause = told.0; records = told.1 })

pub text_length-n-requires : goal.text_length-n-requires
text_length-n-requires c = let r = both-range _ _ _ _ c.in_ok-check_records.ensures refl refl (room-sizes _ _ c.requires _ _ c.in_ok-check_room.ensures) refl refl in (omega (arith, r.0), omega (arith, r.1))

pub returns-then-out-n : goal.returns-then-out-n
returns-then-out-n c = let a = c.args in let told = write-buffer _ _ a.text.now a.«data».now a.out.now c.in_ok-check_records.ensures refl refl (room-sizes _ _ c.requires _ _ c.in_ok-check_room.ensures) refl refl (λ e. c.if-out-n.true (e ∙ sym (c.text_length-n.ensures _ _ _))) in record { cause = told.0; records = told.1 }

pub put_text-requires : goal.put_text-requires
put_text-requires c = let r = both-range _ _ _ _ c.in_ok-check_records.ensures refl refl (room-sizes _ _ c.requires _ _ c.in_ok-check_room.ensures) refl refl in (c.if-out-n.false ∙ c.text_length-n.ensures _ _ _, r.0, r.1)

pub returns : goal.returns
returns c = let a = c.args in let told = write_done _ _ a.text.now a.«data».now a.out.now c.in_ok-check_records.ensures refl refl (room-sizes _ _ c.requires _ _ c.in_ok-check_room.ensures) refl refl (c.if-out-n.false ∙ c.text_length-n.ensures _ _ _) (rw (c.entry_address-entry.ensures a.file.now a.imports.now) at c.put_text.ensures) in record { cause = told.0; records = told.1 }
