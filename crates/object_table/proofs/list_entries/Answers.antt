use contract.BorrowLft.{⊑_meet, ⊑_static}
use Prim.Native.Nat.{◌*◌}
use Rattle.object_table.proofs.Parts.{entry-even, entry-ready}
use Rattle.object_table.specs.Table.{entry_rows}
use Rattle.object_table.proofs.Answers.{room-known, room-accepted, as_before}
use Rattle.object_table.proofs.list_entries.Goals as goal
use Rattle.refusal.proofs.Order.{handed}
use Rattle.std.specs.Prelude.{Err}
use mathlib.Core.Path.{refl}

pub returns-in_err-check_room-clause-answer : goal.returns-in_err-check_room-clause-answer
returns-in_err-check_room-clause-answer c = rw (handed c.from_residual.ensures) (let a = c.args in c.in_err-check_room.ensures)

pub returns-in_err-check_room-clause-rows : goal.returns-in_err-check_room-clause-rows
returns-in_err-check_room-clause-rows c = rw (handed c.from_residual.ensures) (let a = c.args in as_before (entry_rows a.file.now a.t.format a.s) a.out.now (Err c.in_err-check_room.field-0.0) refl)

-- that the lent names outlive the call, and then what `write_rows` asks
pub write_rows-requires : goal.write_rows-requires
write_rows-requires c = let a = c.args in let room = room-known a.out.now (6 * a.s.count) c.in_ok-check_room.ensures refl in
    λ k lives. (⊑_static _, (search (⊑_meet, ⊑_static, lives.0, lives.1.0, lives.1.1.0) depth 12, (room, (entry-even a.file.now a.t.format a.s, (entry-ready a.file.now a.t a.s c.requires, (λ i r l e. e))))))

pub returns-clause-answer : goal.returns-clause-answer
returns-clause-answer c = let a = c.args in room-accepted a.out.now (6 * a.s.count) c.in_ok-check_room.ensures refl

pub returns-clause-rows : goal.returns-clause-rows
returns-clause-rows c = let a = c.args in c.write_rows.ensures
