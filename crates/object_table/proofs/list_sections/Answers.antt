use Prim.Native.Nat.{◌*◌}
use Rattle.object_table.specs.Table.{section_rows}
use Rattle.object_table.proofs.Answers.{room-known, room-accepted, as_before}
use native.Mathlib.Omega.{arith}
use lib.ListN.{length}
use Rattle.object.proofs.Sections.{ready-inside}
use Rattle.object_table.proofs.list_sections.Goals as goal
use Rattle.refusal.proofs.Order.{handed}
use mathlib.Core.Path.{refl}
use Rattle.std.specs.Prelude.{Err}

pub overflow_mul-y : goal.overflow_mul-y
overflow_mul-y c = let a = c.args in omega (arith, (ready-inside a.file.now a.y a.t c.requires.opened).few)

pub returns-in_err-check_room-clause-answer : goal.returns-in_err-check_room-clause-answer
returns-in_err-check_room-clause-answer c = rw (handed c.from_residual.ensures) (let a = c.args in c.in_err-check_room.ensures)

pub returns-in_err-check_room-clause-rows : goal.returns-in_err-check_room-clause-rows
returns-in_err-check_room-clause-rows c = rw (handed c.from_residual.ensures) (let a = c.args in as_before (section_rows (length a.file.now) a.y) a.out.now (Err c.in_err-check_room.field-0.0) refl)

pub write_sections-requires : goal.write_sections-requires
write_sections-requires c = let a = c.args in (c.requires, room-known a.out.now (5 * a.y.count) c.in_ok-check_room.ensures refl)

pub returns-clause-answer : goal.returns-clause-answer
returns-clause-answer c = let a = c.args in room-accepted a.out.now (5 * a.y.count) c.in_ok-check_room.ensures refl

pub returns-clause-rows : goal.returns-clause-rows
returns-clause-rows c = let a = c.args in c.write_sections.ensures
