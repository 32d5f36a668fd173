use Rattle.module_table.proofs.Tables.{table-listed, table-refused}
use Rattle.loader_symbol_table.specs.Rows.{loader_symbols}
use Rattle.word.proofs.Test.{found}
use Rattle.loader_symbol_table.proofs.loader_symbol_table.Goals as goal
use Rattle.refusal.proofs.Order.{handed}
use mathlib.Core.Path.{refl}

pub list_loader_symbols-requires : goal.list_loader_symbols-requires
list_loader_symbols-requires c = (found c.in_ok-l.ensures.cause refl)

pub returns-in_err-l : goal.returns-in_err-l
returns-in_err-l c = rw (handed c.from_residual.ensures) (let told = table-refused loader_symbols c.args.file.now c.args.out.now c.in_err-l.ensures.cause refl in record { cause = told.0; report = told.1.0; rows = told.1.1 })

pub returns : goal.returns
returns c = let told = table-listed loader_symbols c.args.file.now c.args.out.now c.in_ok-l.ensures.cause refl c.list_loader_symbols.ensures.answer c.list_loader_symbols.ensures.rows in record { cause = told.0; report = told.1.0; rows = told.1.1 }
