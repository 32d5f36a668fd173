use Rattle.object_table.specs.Table.{entries_check_in, entry_rows, part_of, entry_rows_check, entry_rows_after}
use lib.ListN.{length}
use Rattle.symbol.proofs.Opened.{opened-tables}
use Rattle.object.proofs.Answer.{opened-ready}
use Rattle.object_plan.proofs.Ready.{object-ready}
use Rattle.object_table.proofs.Answers.{open-refused, object-refused, object-listed}
use Rattle.object_table.proofs.object_entries.Goals as goal
use Rattle.refusal.proofs.Order.{handed}
use mathlib.Core.Path.{refl}

pub tables_of-t-requires : goal.tables_of-t-requires
tables_of-t-requires c = let a = c.args in opened-tables a.file.now c.open-o.ensures.cause c.in_ok-o.was

pub check_object-requires : goal.check_object-requires
check_object-requires c = let a = c.args in opened-ready a.file.now c.open-o.ensures.cause c.in_ok-o.was c.tables_of-t.ensures

pub entries_in-requires : goal.entries_in-requires
entries_in-requires c = let a = c.args in object-ready a.file.now (opened-ready a.file.now c.open-o.ensures.cause c.in_ok-o.was c.tables_of-t.ensures) c.in_ok-check_object.ensures refl

pub returns-in_err-o : goal.returns-in_err-o
unfolding entry_rows_check entry_rows_after
returns-in_err-o c = rw (handed c.from_residual.ensures) (let a = c.args in let told = open-refused a.file.now a.out.now (λ y. entries_check_in (length a.file.now) y a.n (length a.out.now)) (λ y. entry_rows a.file.now y.format (part_of (length a.file.now) y a.n)) c.open-o.ensures.cause c.in_err-o.was in record { cause = told.0; report = told.1.0; rows = told.1.1 })

pub returns-in_err-check_object : goal.returns-in_err-check_object
unfolding entry_rows_check entry_rows_after
returns-in_err-check_object c = rw (handed c.from_residual-in_err-check_object.ensures) (let a = c.args in let told = object-refused a.file.now a.out.now (λ y. entries_check_in (length a.file.now) y a.n (length a.out.now)) (λ y. entry_rows a.file.now y.format (part_of (length a.file.now) y a.n)) c.open-o.ensures.cause c.in_ok-o.was c.in_err-check_object.ensures refl in record { cause = told.0; report = told.1.0; rows = told.1.1 })

pub returns : goal.returns
unfolding entry_rows_check entry_rows_after
returns c = let a = c.args in let told = object-listed a.file.now a.out.now (λ y. entries_check_in (length a.file.now) y a.n (length a.out.now)) (λ y. entry_rows a.file.now y.format (part_of (length a.file.now) y a.n)) c.open-o.ensures.cause c.in_ok-o.was c.in_ok-check_object.ensures refl c.entries_in.ensures.answer c.entries_in.ensures.rows in record { cause = told.0; report = told.1.0; rows = told.1.1 }
