use Prim.Native.Nat.{◌*◌}
use Rattle.rows.specs.Rows.{room_check}
use Rattle.object_table.specs.Table.{section_rows, section_rows_check, section_rows_after}
use lib.ListN.{length}
use Rattle.symbol.proofs.Opened.{opened-tables}
use Rattle.object.proofs.Answer.{opened-ready}
use Rattle.object_plan.proofs.Ready.{object-ready}
use Rattle.object_table.proofs.Answers.{open-refused, object-refused, object-listed}
use Rattle.object_table.proofs.object_sections.Goals as goal
use Rattle.refusal.proofs.Order.{handed}
use mathlib.Core.Path.{refl}

pub tables_of-t-requires : goal.tables_of-t-requires
tables_of-t-requires c = let a = c.args in opened-tables a.file.now c.open-o.ensures.cause c.in_ok-o.was

pub check_object-requires : goal.check_object-requires
check_object-requires c = let a = c.args in opened-ready a.file.now c.open-o.ensures.cause c.in_ok-o.was c.tables_of-t.ensures

pub list_sections-requires : goal.list_sections-requires
list_sections-requires c = let a = c.args in (object-ready a.file.now (opened-ready a.file.now c.open-o.ensures.cause c.in_ok-o.was c.tables_of-t.ensures) c.in_ok-check_object.ensures refl).sections

pub returns-in_err-o : goal.returns-in_err-o
unfolding section_rows_check section_rows_after
returns-in_err-o c = rw (handed c.from_residual.ensures) (let a = c.args in let told = open-refused a.file.now a.out.now (λ y. room_check (length a.out.now) (5 * y.count)) (λ y. section_rows (length a.file.now) y) c.open-o.ensures.cause c.in_err-o.was in record { cause = told.0; report = told.1.0; rows = told.1.1 })

pub returns-in_err-check_object : goal.returns-in_err-check_object
unfolding section_rows_check section_rows_after
returns-in_err-check_object c = rw (handed c.from_residual-in_err-check_object.ensures) (let a = c.args in let told = object-refused a.file.now a.out.now (λ y. room_check (length a.out.now) (5 * y.count)) (λ y. section_rows (length a.file.now) y) c.open-o.ensures.cause c.in_ok-o.was c.in_err-check_object.ensures refl in record { cause = told.0; report = told.1.0; rows = told.1.1 })

pub returns : goal.returns
unfolding section_rows_check section_rows_after
returns c = let a = c.args in let told = object-listed a.file.now a.out.now (λ y. room_check (length a.out.now) (5 * y.count)) (λ y. section_rows (length a.file.now) y) c.open-o.ensures.cause c.in_ok-o.was c.in_ok-check_object.ensures refl c.list_sections.ensures.answer c.list_sections.ensures.rows in record { cause = told.0; report = told.1.0; rows = told.1.1 }
