use Rattle.mend.proofs.Rows.{room-first, room-second, sets-on, sets-off, next-on, next-off}
use Rattle.mend_report.proofs.report_if.Goals as goal

pub put_number-requires : goal.put_number-requires
put_number-requires c = room-first _ _ _ _ c.args.report.now c.at.ensures c.if-on.true c.requires

pub put_number-requires-then-on : goal.put_number-requires-then-on
put_number-requires-then-on c = room-second _ _ _ _ c.args.report.now c.at.ensures c.put_number.ensures c.at-then-on.ensures c.if-on.true c.requires

pub returns-then-on-clause-row : goal.returns-then-on-clause-row
returns-then-on-clause-row c = sets-on _ _ _ _ _ c.at.ensures c.put_number.ensures c.at-then-on.ensures c.number.ensures c.put_number-then-on.ensures c.if-on.true

pub returns-then-on-clause-next : goal.returns-then-on-clause-next
returns-then-on-clause-next c = next-on _ _ _ _ c.args.report.now c.if-on.true

pub returns-clause-row : goal.returns-clause-row
returns-clause-row c = sets-off _ _ _ _ _ c.if-on.false

pub returns-clause-next : goal.returns-clause-next
returns-clause-next c = next-off _ _ _ _ c.args.report.now c.if-on.false
