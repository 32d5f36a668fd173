use mathlib.Core.Path.{sym, ◌∙◌, ap}
use lib.ListN.{length}
use Rattle.salvage.proofs.Answer.{room-told, copy-room, rows_fit, tables-refused, tables-salvaged, few-changes}
use Rattle.salvage_file.proofs.salvage_tables.Goals as goal
use Rattle.refusal.proofs.Order.{handed}
use mathlib.Core.Path.{refl}

pub check_room-requires : goal.check_room-requires
check_room-requires c = let a = c.args in few-changes a.file.now a.t _ c.requires c.count_tables-n.ensures.bound

pub copy_file-requires : goal.copy_file-requires
copy_file-requires c = let a = c.args in copy-room a.file.now a.t a.copy.now a.report.now c.count_tables-n.ensures.value c.in_ok-check_room.ensures refl

pub mend_tables-requires : goal.mend_tables-requires
mend_tables-requires c = let a = c.args in (c.requires, ap length c.copy_file.ensures)

pub report_tables-requires : goal.report_tables-requires
report_tables-requires c = let a = c.args in (c.requires, rows_fit a.file.now a.t a.copy.now a.report.now c.count_tables-n.ensures.value c.in_ok-check_room.ensures refl)

pub returns-in_err-check_room : goal.returns-in_err-check_room
returns-in_err-check_room c = rw (handed c.from_residual.ensures) (let a = c.args in let told = tables-refused a.file.now a.t a.copy.now a.report.now (sym (room-told a.file.now a.t a.copy.now a.report.now c.count_tables-n.ensures.value c.in_err-check_room.ensures) ∙ refl) in record { answer = told.0; mended = told.1.0; reported = told.1.1 })

pub returns : goal.returns
returns c = let a = c.args in let told = tables-salvaged a.file.now a.t a.copy.now a.report.now (sym (room-told a.file.now a.t a.copy.now a.report.now c.count_tables-n.ensures.value c.in_ok-check_room.ensures) ∙ refl) c.count_tables-n.ensures.value c.copy_file.ensures c.mend_tables.ensures c.report_tables.ensures in record { answer = told.0; mended = told.1.0; reported = told.1.1 }
