use native.Mathlib.Omega.{arith}
use Rattle.std.proofs.Common.{rules}
use Rattle.loadable.proofs.Accepted.{loadable-valid}
use Rattle.module_table.proofs.Tables.{listed, not_listed, room-known}
use Rattle.loader_symbol_table.specs.Rows.{loader_symbols}
use Rattle.loader_symbol_table.proofs.Rows.{loader-symbol-even}
use Rattle.loader_symbol_table.proofs.list_loader_symbols.Goals as goal
use Rattle.refusal.proofs.Order.{handed}
use mathlib.Core.Path.{refl}

pub overflow_mul-t : goal.overflow_mul-t
overflow_mul-t c = omega (arith, (loadable-valid c.args.file.now c.args.l c.requires).loader.tables.few)

pub returns-in_err-check_room : goal.returns-in_err-check_room
returns-in_err-check_room c = rw (handed c.from_residual.ensures) (let a = c.args in let told = not_listed loader_symbols a.file.now a.out.now a.l c.in_err-check_room.ensures refl in record { answer = told.0; rows = told.1 })

pub write_rows-requires : goal.write_rows-requires
write_rows-requires c = let a = c.args in let room = room-known loader_symbols a.file.now a.out.now a.l c.in_ok-check_room.ensures refl in search (rules, room, loader-symbol-even)

pub returns : goal.returns
returns c = let a = c.args in let told = listed loader_symbols a.file.now a.out.now a.l c.in_ok-check_room.ensures refl c.write_rows.ensures in record { answer = told.0; rows = told.1 }
