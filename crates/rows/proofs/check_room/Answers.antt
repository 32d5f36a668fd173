use borrow.Author.Tests.{eq-eqb, ne_eqb}
use Rattle.rows.specs.Rows.{room_check}
use Rattle.rows.proofs.check_room.Goals as goal

pub returns-then-given-needed : goal.returns-then-given-needed
unfolding room_check
returns-then-given-needed c = rw (eq-eqb _ _ c.if-given-needed.true)

pub returns : goal.returns
unfolding room_check
returns c = rw (ne_eqb _ _ c.if-given-needed.false)
