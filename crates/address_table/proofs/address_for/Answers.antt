use Rattle.address_table.specs.Table.{book_of}
use Rattle.address_table.proofs.Calls.{fill-found, fill-recorded}
use Rattle.address_table.proofs.address_for.Goals as goal

pub returns-in-Ok : goal.returns-in-Ok
returns-in-Ok c = let a = c.args in fill-found a.bench a.file_id a.recorded a.name.now (book_of a.table.now) c.table_find-answer.ensures.cause c.in-Ok.is

pub returns-in-Err : goal.returns-in-Err
returns-in-Err c = let a = c.args in fill-recorded a.bench a.file_id a.recorded a.name.now (book_of a.table.now) c.table_find-answer.ensures.cause c.in-Err.is
