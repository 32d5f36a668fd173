use Rattle.salvage.proofs.Answer.{copy-refused, report-refused, room-accepted}
use Rattle.salvage.proofs.check_room.Goals as goal

pub returns-then-copy-len : goal.returns-then-copy-len
returns-then-copy-len c = copy-refused _ _ _ _ c.if-copy-len.true

pub returns-then-report-count : goal.returns-then-report-count
returns-then-report-count c = report-refused _ _ _ _ c.if-copy-len.false c.if-report-count.true

pub returns : goal.returns
returns c = room-accepted _ _ _ _ c.if-copy-len.false c.if-report-count.false
