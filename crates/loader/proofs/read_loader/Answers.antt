use Rattle.loader.proofs.Accepted.{loader-known}
use Rattle.word.proofs.Test.{found}
use Rattle.loader.specs.Loader.{loader_in, loader_check, symbols_check, tables_in}
use Rattle.loader.proofs.read_loader.Goals as goal
use Rattle.refusal.proofs.Order.{handed}
use mathlib.Core.Path.{refl}

pub returns-in_err-check_header : goal.returns-in_err-check_header
unfolding loader_in loader_check
returns-in_err-check_header c = rw (handed c.from_residual.ensures) (rw (found c.in_err-check_header.ensures refl))

pub read_header-h-requires : goal.read_header-h-requires
read_header-h-requires c = let a = c.args in (loader-known a.file.now a.m.format a.m.parts.loader.start.0 a.m.parts.loader.size (found c.in_ok-check_header.ensures refl) c.requires).header

pub find_tables-t-requires : goal.find_tables-t-requires
find_tables-t-requires c = let a = c.args in (rw c.read_header-h.ensures.value (loader-known a.file.now a.m.format a.m.parts.loader.start.0 a.m.parts.loader.size (found c.in_ok-check_header.ensures refl) c.requires).places, c.read_header-h.ensures.bound)

pub check_symbols-requires : goal.check_symbols-requires
check_symbols-requires c = let a = c.args in rw (c.find_tables-t.ensures, c.read_header-h.ensures.value) (loader-known a.file.now a.m.format a.m.parts.loader.start.0 a.m.parts.loader.size (found c.in_ok-check_header.ensures refl) c.requires).tables

pub returns-in_err-check_symbols : goal.returns-in_err-check_symbols
unfolding loader_in loader_check symbols_check tables_in
returns-in_err-check_symbols c = rw (handed c.from_residual-in_err-check_symbols.ensures) (rw (found c.in_ok-check_header.ensures refl, found (rw (c.find_tables-t.ensures, c.read_header-h.ensures.value) at c.in_err-check_symbols.ensures) refl))

pub returns : goal.returns
unfolding loader_in loader_check symbols_check tables_in
returns c = rw (found c.in_ok-check_header.ensures refl, found (rw (c.find_tables-t.ensures, c.read_header-h.ensures.value) at c.in_ok-check_symbols.ensures) refl, c.find_tables-t.ensures, c.read_header-h.ensures.value)
