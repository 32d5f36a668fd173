use Rattle.std.proofs.Common.{rules}
use lib.ListN.{length}
use Rattle.line_table.proofs.Answers.{room-known, listed, not_listed}
use Rattle.line_table.proofs.Blocks.{rows_fit}
use Rattle.line_table.proofs.list_lines.Goals as goal
use Rattle.refusal.proofs.Order.{handed}
use mathlib.Core.Path.{refl}

pub overflow_mul-t : goal.overflow_mul-t
overflow_mul-t c = let t = c.args.t in let fit = rows_fit t.format t.start.0 t.count (length c.args.file.now) c.requires in search rules

pub returns-in_err-check_room : goal.returns-in_err-check_room
returns-in_err-check_room c = rw (handed c.from_residual.ensures) (let a = c.args in let told = not_listed a.file.now a.out.now a.t c.in_err-check_room.ensures refl in record { answer = told.0; rows = told.1 })

pub write_lines-requires : goal.write_lines-requires
write_lines-requires c = let a = c.args in (c.requires, room-known a.file.now a.out.now a.t c.in_ok-check_room.ensures refl)

pub returns : goal.returns
returns c = let a = c.args in let told = listed a.file.now a.out.now a.t c.in_ok-check_room.ensures refl c.write_lines.ensures in record { answer = told.0; rows = told.1 }
