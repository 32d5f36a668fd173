use mathlib.Core.Path.{ap}
use native.Mathlib.Omega.{arith}
use Rattle.loadable.proofs.Accepted.{loadable-valid}
use Rattle.lookup.proofs.Symbols.{entry-in-file}
use Rattle.lookup.specs.Symbol.{entry_of, loader_name_at, name_of, symbol_name_in}
use Rattle.word.proofs.Test.{found}
use Rattle.offset.specs.Report.{report_of_range}
use Rattle.loader_lookup.proofs.loader_symbol_name_range.Goals as goal
use Rattle.refusal.proofs.Order.{handed}
use mathlib.Core.Path.{refl}

pub check_index-requires : goal.check_index-requires
check_index-requires c = let h = loadable-valid c.args.file.now _ (found c.in_ok-l.ensures.cause refl) in let few = h.loader.tables.few in omega arith

pub entry_base-base-requires : goal.entry_base-base-requires
entry_base-base-requires c = let h = loadable-valid c.args.file.now _ (found c.in_ok-l.ensures.cause refl) in let t = h.loader.tables in (omega (arith, t.symbols, t.small), found c.in_ok-check_index.ensures refl)

pub read_entry-e-requires : goal.read_entry-e-requires
read_entry-e-requires c = let h = loadable-valid c.args.file.now _ (found c.in_ok-l.ensures.cause refl) in rw c.entry_base-base.ensures (entry-in-file c.args.file.now _ c.args.i h.loader.tables (found c.in_ok-check_index.ensures refl))

pub name_range-requires : goal.name_range-requires
name_range-requires c = let h = loadable-valid c.args.file.now _ (found c.in_ok-l.ensures.cause refl) in (h.loader.tables.strings, rw c.entry_base-base.ensures (entry-in-file c.args.file.now _ c.args.i h.loader.tables (found c.in_ok-check_index.ensures refl)))

pub returns-in_err-l-clause-cause : goal.returns-in_err-l-clause-cause
unfolding loader_name_at symbol_name_in
returns-in_err-l-clause-cause c = rw (handed c.from_residual.ensures) (rw (found c.in_err-l.ensures.cause refl))

pub returns-in_err-l-clause-report : goal.returns-in_err-l-clause-report
unfolding loader_name_at symbol_name_in
returns-in_err-l-clause-report c = ap (report_of_range _) (returns-in_err-l-clause-cause c)

pub returns-in_err-check_index-clause-cause : goal.returns-in_err-check_index-clause-cause
unfolding loader_name_at symbol_name_in
returns-in_err-check_index-clause-cause c = rw (handed c.from_residual-in_err-check_index.ensures) (rw (found c.in_ok-l.ensures.cause refl, found c.in_err-check_index.ensures refl))

pub returns-in_err-check_index-clause-report : goal.returns-in_err-check_index-clause-report
unfolding loader_name_at symbol_name_in
returns-in_err-check_index-clause-report c = ap (report_of_range _) (returns-in_err-check_index-clause-cause c)

pub returns-clause-cause : goal.returns-clause-cause
unfolding loader_name_at symbol_name_in name_of entry_of
returns-clause-cause c = rw (found c.in_ok-l.ensures.cause refl, found c.in_ok-check_index.ensures refl, c.name_range.ensures, c.read_entry-e.ensures, c.entry_base-base.ensures)

pub returns-clause-report : goal.returns-clause-report
unfolding loader_name_at symbol_name_in name_of entry_of
returns-clause-report c = ap (report_of_range _) (returns-clause-cause c)
