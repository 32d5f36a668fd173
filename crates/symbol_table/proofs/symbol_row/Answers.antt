use mathlib.Core.Path.{refl}
use Rattle.symbol.proofs.Checks.{symbol-known}
use Rattle.symbol_table.specs.Row.{symbol_row}
use Rattle.symbol_table.proofs.Opened.{csect-is, entry_named, room-is, symbol-is}
use Rattle.symbol_table.proofs.symbol_row.Goals as goal

pub entry_in-e-requires : goal.entry_in-e-requires
entry_in-e-requires c = (c.requires.0, symbol-known c.args.file.now c.args.t c.args.i c.requires.1)

pub name_room-name-requires : goal.name_room-name-requires
name_room-name-requires c = let a = c.args in (c.requires.0, symbol-known a.file.now a.t a.i c.requires.1, entry_named a.file.now a.t c.requires.0 a.i c.entry_in-e.ensures c.requires.1)

pub csect_in-requires : goal.csect_in-requires
csect_in-requires c = c.requires.0

pub returns : goal.returns
unfolding symbol_row
returns c = let a = c.args in rw (c.report_csect-c.ensures, c.report_symbol-y.ensures, symbol-is a.file.now a.t c.requires.0 a.i c.requires.1, csect-is a.file.now a.t c.requires.0 a.i c.csect_in.ensures, room-is a.file.now a.t c.requires.0 a.i c.entry_in-e.ensures c.name_room-name.ensures) refl
