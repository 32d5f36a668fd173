use Rattle.symbol.proofs.Opened.{opened-tables}
use Rattle.symbol_table.proofs.Visits.{table-listed, table-refused}
use Rattle.symbol_table.proofs.symbol_table.Goals as goal
use Rattle.refusal.proofs.Order.{handed}

pub tables_of-t-requires : goal.tables_of-t-requires
tables_of-t-requires c = opened-tables c.args.file.now c.open-o.ensures.cause c.in_ok-o.was

pub list_symbols-requires : goal.list_symbols-requires
list_symbols-requires c = c.tables_of-t.ensures

pub returns-in_err-o : goal.returns-in_err-o
returns-in_err-o c = rw (handed c.from_residual.ensures) (let told = table-refused c.args.file.now c.args.out.now c.open-o.ensures.cause c.in_err-o.was in record { cause = told.0; report = told.1.0; rows = told.1.1 })

pub returns : goal.returns
returns c = let a = c.args in let told = table-listed a.file.now a.out.now c.tables_of-t.ensures c.list_symbols.ensures.answer c.list_symbols.ensures.rows in record { cause = told.0; report = told.1.0; rows = told.1.1 }
