use Rattle.module_table.proofs.Tables.{listed, not_listed, room-known}
use Rattle.relocation_table.specs.Rows.{relocations}
use Rattle.relocation_table.proofs.Rows.{relocation-even}
use Rattle.std.proofs.Common.{rules}
use Rattle.relocation_table.proofs.list_relocations.Goals as goal
use Rattle.refusal.proofs.Order.{handed}
use mathlib.Core.Path.{refl}

pub returns-in_err-check_room : goal.returns-in_err-check_room
returns-in_err-check_room c = rw (handed c.from_residual.ensures) (let a = c.args in let told = not_listed relocations a.file.now a.out.now a.l c.in_err-check_room.ensures refl in record { answer = told.0; rows = told.1 })

pub write_rows-requires : goal.write_rows-requires
write_rows-requires c = let a = c.args in let room = room-known relocations a.file.now a.out.now a.l c.in_ok-check_room.ensures refl in search (rules, room, relocation-even)

pub returns : goal.returns
returns c = let a = c.args in let told = listed relocations a.file.now a.out.now a.l c.in_ok-check_room.ensures refl c.write_rows.ensures in record { answer = told.0; rows = told.1 }
