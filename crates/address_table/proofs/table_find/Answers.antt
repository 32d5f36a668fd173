use mathlib.Core.Path.{ap}
use Rattle.word.proofs.Test.{found}
use Rattle.address_book.specs.Call.{report_of_number}
use Rattle.address_table.specs.Table.{book_of}
use Rattle.address_book.specs.Book.{key}
use Rattle.address_table.proofs.Calls.{find-refused}
use Rattle.address_table.proofs.table_find.Goals as goal
use Rattle.refusal.proofs.Order.{handed}
use mathlib.Core.Path.{refl}

pub find_good-requires : goal.find_good-requires
find_good-requires c = found c.in_ok-check_key.ensures refl

pub returns-clause-cause : goal.returns-clause-cause
returns-clause-cause c = let e = c.find_good.ensures in e

pub returns-clause-report : goal.returns-clause-report
returns-clause-report c = let e = c.find_good.ensures in ap report_of_number e

pub returns-in_err-check_key-clause-cause : goal.returns-in_err-check_key-clause-cause
returns-in_err-check_key-clause-cause c = rw (handed c.from_residual.ensures) (let a = c.args in let e = find-refused (key a.bench a.file_id a.name.now) (book_of a.table.now) _ (found c.in_err-check_key.ensures refl) in e)

pub returns-in_err-check_key-clause-report : goal.returns-in_err-check_key-clause-report
returns-in_err-check_key-clause-report c = rw (handed c.from_residual.ensures) (let a = c.args in let e = find-refused (key a.bench a.file_id a.name.now) (book_of a.table.now) _ (found c.in_err-check_key.ensures refl) in ap report_of_number e)
