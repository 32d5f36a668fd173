use native.Mathlib.Omega.{arith}
use Rattle.loadable.proofs.Accepted.{loadable-valid}
use Rattle.lookup.proofs.Symbols.{entry-in-file}
use Rattle.lookup.specs.Symbol.{entry_of, loader_symbol_at, symbol_in}
use Rattle.word.proofs.Test.{found}
use Rattle.loader_lookup.proofs.loader_symbol.Goals as goal
use Rattle.refusal.proofs.Order.{handed}
use mathlib.Core.Path.{refl}

pub check_index-requires : goal.check_index-requires
check_index-requires c = let h = loadable-valid c.args.file.now _ (found c.in_ok-l.ensures.cause refl) in let few = h.loader.tables.few in omega arith

pub entry_base-base-requires : goal.entry_base-base-requires
entry_base-base-requires c = let h = loadable-valid c.args.file.now _ (found c.in_ok-l.ensures.cause refl) in let t = h.loader.tables in (omega (arith, t.symbols, t.small), found c.in_ok-check_index.ensures refl)

pub read_entry-requires : goal.read_entry-requires
read_entry-requires c = let h = loadable-valid c.args.file.now _ (found c.in_ok-l.ensures.cause refl) in rw c.entry_base-base.ensures (entry-in-file c.args.file.now _ c.args.i h.loader.tables (found c.in_ok-check_index.ensures refl))

pub returns-in_err-l-clause-cause : goal.returns-in_err-l-clause-cause
unfolding loader_symbol_at symbol_in
returns-in_err-l-clause-cause c = rw (handed c.from_residual.ensures) (let h = found c.in_err-l.ensures.cause refl in rw h)

pub returns-in_err-l-clause-report : goal.returns-in_err-l-clause-report
unfolding loader_symbol_at symbol_in
returns-in_err-l-clause-report c = rw (handed c.from_residual.ensures) (let h = found c.in_err-l.ensures.cause refl in rw h)

pub returns-in_err-check_index-clause-cause : goal.returns-in_err-check_index-clause-cause
unfolding loader_symbol_at symbol_in
returns-in_err-check_index-clause-cause c = rw (handed c.from_residual-in_err-check_index.ensures) (let h = found c.in_ok-l.ensures.cause refl in let v = found c.in_err-check_index.ensures refl in rw (h, v))

pub returns-in_err-check_index-clause-report : goal.returns-in_err-check_index-clause-report
unfolding loader_symbol_at symbol_in
returns-in_err-check_index-clause-report c = rw (handed c.from_residual-in_err-check_index.ensures) (let h = found c.in_ok-l.ensures.cause refl in let v = found c.in_err-check_index.ensures refl in rw (h, v))

pub returns-clause-cause : goal.returns-clause-cause
unfolding loader_symbol_at symbol_in entry_of
returns-clause-cause c = let h = found c.in_ok-l.ensures.cause refl in let v = found c.in_ok-check_index.ensures refl in rw (h, v, c.read_entry.ensures, c.entry_base-base.ensures)

pub returns-clause-report : goal.returns-clause-report
unfolding loader_symbol_at symbol_in entry_of
returns-clause-report c = let h = found c.in_ok-l.ensures.cause refl in let v = found c.in_ok-check_index.ensures refl in rw (h, v, c.read_entry.ensures, c.entry_base-base.ensures)
