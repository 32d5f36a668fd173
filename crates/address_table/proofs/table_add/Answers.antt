use mathlib.Core.Path.{ap}
use Rattle.word.proofs.Test.{found}
use Rattle.sheet.specs.Sheet.{sheet_head}
use Rattle.address_book.specs.Book.{key}
use Rattle.address_table.proofs.Calls.{add-refused}
use Rattle.address_table.proofs.table_add.Goals as goal
use Rattle.refusal.proofs.Order.{handed}
use mathlib.Core.Path.{refl}

pub add_good-requires : goal.add_good-requires
add_good-requires c = found c.in_ok-check_key.ensures refl

pub returns-clause-cause : goal.returns-clause-cause
returns-clause-cause c = let e = c.add_good.ensures in e.answer

pub returns-clause-report : goal.returns-clause-report
returns-clause-report c = let e = c.add_good.ensures in ap sheet_head e.answer

pub returns-clause-table : goal.returns-clause-table
returns-clause-table c = let e = c.add_good.ensures in e.table

pub returns-in_err-check_key-clause-cause : goal.returns-in_err-check_key-clause-cause
returns-in_err-check_key-clause-cause c = rw (handed c.from_residual.ensures) (let a = c.args in let e = add-refused (key a.bench a.file_id a.name.now) a.address a.table.now _ (found c.in_err-check_key.ensures refl) in e.0)

pub returns-in_err-check_key-clause-report : goal.returns-in_err-check_key-clause-report
returns-in_err-check_key-clause-report c = rw (handed c.from_residual.ensures) (let a = c.args in let e = add-refused (key a.bench a.file_id a.name.now) a.address a.table.now _ (found c.in_err-check_key.ensures refl) in ap sheet_head e.0)

pub returns-in_err-check_key-clause-table : goal.returns-in_err-check_key-clause-table
returns-in_err-check_key-clause-table c = let a = c.args in let e = add-refused (key a.bench a.file_id a.name.now) a.address a.table.now _ (found c.in_err-check_key.ensures refl) in e.1
