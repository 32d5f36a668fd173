use Rattle.module_table.proofs.Tables.{table-listed, table-refused}
use Rattle.import_table.specs.Imports.{imports}
use Rattle.word.proofs.Test.{found}
use Rattle.import_table.proofs.import_table.Goals as goal
use Rattle.refusal.proofs.Order.{handed}
use mathlib.Core.Path.{refl}

pub list_imports-requires : goal.list_imports-requires
list_imports-requires c = (found c.in_ok-l.ensures.cause refl)

pub returns-in_err-l : goal.returns-in_err-l
returns-in_err-l c = rw (handed c.from_residual.ensures) (let told = table-refused imports c.args.file.now c.args.out.now c.in_err-l.ensures.cause refl in record { cause = told.0; report = told.1.0; rows = told.1.1 })

pub returns : goal.returns
returns c = let told = table-listed imports c.args.file.now c.args.out.now c.in_ok-l.ensures.cause refl c.list_imports.ensures.answer c.list_imports.ensures.rows in record { cause = told.0; report = told.1.0; rows = told.1.1 }
