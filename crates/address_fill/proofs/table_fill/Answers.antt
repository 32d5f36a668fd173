use Rattle.word.proofs.Test.{found}
use Rattle.refusal.proofs.Order.{told}
use Rattle.loadable.proofs.Accepted.{loadable-valid}
use Rattle.address_table.specs.Table.{book_of}
use Rattle.address_fill.proofs.Laws.{no-bench, no-module, by-module}
use Rattle.address_fill.proofs.table_fill.Goals as goal
use Rattle.refusal.proofs.Order.{handed}
use mathlib.Core.Path.{refl}

pub returns-in_err-check_bench : goal.returns-in_err-check_bench
returns-in_err-check_bench c = rw (handed c.from_residual.ensures) (let a = c.args in let told = no-bench (book_of a.table.now) a.bench a.file.now a.list.now c.in_err-check_bench.ensures (told c.in_err-check_bench.ensures refl refl) in record { cause = told.0; report = told.1.0; list = told.1.1 })

pub fill_module-requires : goal.fill_module-requires
fill_module-requires c = loadable-valid c.args.file.now _ (found c.in_ok-l.ensures.cause refl)

pub returns-in_err-l : goal.returns-in_err-l
returns-in_err-l c = rw (handed c.from_residual-in_err-l.ensures) (let a = c.args in let told = no-module (book_of a.table.now) a.bench a.file.now a.list.now _ (told c.in_ok-check_bench.ensures refl refl) (found c.in_err-l.ensures.cause refl) in record { cause = told.0; report = told.1.0; list = told.1.1 })

pub returns : goal.returns
returns c = let a = c.args in let e = found c.in_ok-l.ensures.cause refl in let told = by-module (book_of a.table.now) a.bench a.file.now a.list.now _ (told c.in_ok-check_bench.ensures refl refl) e c.fill_module.ensures.answer c.fill_module.ensures.list in record { cause = told.0; report = told.1.0; list = told.1.1 }
