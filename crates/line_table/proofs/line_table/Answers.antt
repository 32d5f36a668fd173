use Rattle.word.proofs.Test.{found}
use Rattle.line_lookup.proofs.Tables.{table-within}
use Rattle.line_table.proofs.Answers.{table-listed, table-refused}
use Rattle.line_table.proofs.line_table.Goals as goal
use Rattle.refusal.proofs.Order.{handed}
use mathlib.Core.Path.{refl}

pub list_lines-requires : goal.list_lines-requires
list_lines-requires c = let a = c.args in table-within a.file.now a.n (found c.in_ok-t.ensures.cause refl)

pub returns-in_err-t : goal.returns-in_err-t
returns-in_err-t c = rw (handed c.from_residual.ensures) (let a = c.args in let told = table-refused a.file.now a.out.now a.n c.in_err-t.ensures.cause refl in record { cause = told.0; report = told.1.0; rows = told.1.1 })

pub returns : goal.returns
returns c = let a = c.args in let told = table-listed a.file.now a.out.now a.n c.in_ok-t.ensures.cause refl c.list_lines.ensures.answer c.list_lines.ensures.rows in record { cause = told.0; report = told.1.0; rows = told.1.1 }
