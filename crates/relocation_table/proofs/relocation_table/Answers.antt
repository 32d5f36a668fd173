use Rattle.module_table.proofs.Tables.{table-listed, table-refused}
use Rattle.relocation_table.specs.Rows.{relocations}
use Rattle.loadable.proofs.Accepted.{loadable-valid}
use Rattle.word.proofs.Test.{found}
use Rattle.relocation_table.proofs.relocation_table.Goals as goal
use Rattle.refusal.proofs.Order.{handed}
use mathlib.Core.Path.{refl}

pub list_relocations-requires : goal.list_relocations-requires
list_relocations-requires c = loadable-valid c.args.file.now _ (found c.in_ok-l.ensures.cause refl)

pub returns-in_err-l : goal.returns-in_err-l
returns-in_err-l c = rw (handed c.from_residual.ensures) (let told = table-refused relocations c.args.file.now c.args.out.now c.in_err-l.ensures.cause refl in record { cause = told.0; report = told.1.0; rows = told.1.1 })

pub returns : goal.returns
returns c = let told = table-listed relocations c.args.file.now c.args.out.now c.in_ok-l.ensures.cause refl c.list_relocations.ensures.answer c.list_relocations.ensures.rows in record { cause = told.0; report = told.1.0; rows = told.1.1 }
