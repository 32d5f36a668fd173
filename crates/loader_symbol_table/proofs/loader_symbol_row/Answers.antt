use mathlib.Core.Path.{refl}
use native.Mathlib.Omega.{arith}
use Rattle.loadable.proofs.Accepted.{loadable-valid}
use Rattle.loader_symbol_table.specs.Rows.{loader_symbol_row}
use Rattle.loader_symbol_table.proofs.Symbols.{name-found, symbol-found, symbol-inside}
use Rattle.loader_symbol_table.proofs.loader_symbol_row.Goals as goal

pub overflow_add-i : goal.overflow_add-i
overflow_add-i c = omega (arith, (loadable-valid c.args.file.now c.args.l c.requires.0).loader.tables.few, c.requires.1)

pub overflow_mul-base : goal.overflow_mul-base
overflow_mul-base c = omega (arith, (loadable-valid c.args.file.now c.args.l c.requires.0).loader.tables.few, c.requires.1)

pub overflow_add-base : goal.overflow_add-base
overflow_add-base c = omega (arith, (loadable-valid c.args.file.now c.args.l c.requires.0).sections.small, (symbol-inside c.args.file.now c.args.l c.args.k c.requires.0 c.requires.1).0)

pub read_entry-e-requires : goal.read_entry-e-requires
read_entry-e-requires c = (symbol-inside c.args.file.now c.args.l c.args.k c.requires.0 c.requires.1).0

pub name_range-requires : goal.name_range-requires
name_range-requires c = let h = symbol-inside c.args.file.now c.args.l c.args.k c.requires.0 c.requires.1 in (h.1, h.0)

pub returns : goal.returns
unfolding loader_symbol_row
returns c = let a = c.args in let e = c.read_entry-e.ensures in rw (c.range_found-name.ensures, symbol-found a.file.now a.l a.k c.requires.0 c.requires.1 e, name-found a.file.now a.l a.k c.requires.0 c.requires.1 e c.name_range.ensures) refl
