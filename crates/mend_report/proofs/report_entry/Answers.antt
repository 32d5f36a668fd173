use Rattle.mend.proofs.Rows.{room-1, room-2, room-3, room-4, rows_next, rows-put, fits-row}
use Rattle.mend_report.proofs.report_entry.Goals as goal

pub report_if-one-requires : goal.report_if-one-requires
report_if-one-requires c = let a = c.args in room-1 a.i a.r a.at _ c.requires

pub report_if-two-requires : goal.report_if-two-requires
report_if-two-requires c = let a = c.args in fits-row _ _ _ c.report_if-one.ensures.row (room-2 a.i a.r a.at c.report_if-one.ensures.next _ c.requires)

pub report_if-three-requires : goal.report_if-three-requires
report_if-three-requires c = let a = c.args in fits-row _ _ _ c.report_if-two.ensures.row (fits-row _ _ _ c.report_if-one.ensures.row (room-3 a.i a.r a.at c.report_if-one.ensures.next c.report_if-two.ensures.next _ c.requires))

pub report_if-requires : goal.report_if-requires
report_if-requires c = let a = c.args in fits-row _ _ _ c.report_if-three.ensures.row (fits-row _ _ _ c.report_if-two.ensures.row (fits-row _ _ _ c.report_if-one.ensures.row (room-4 a.i a.r a.at c.report_if-one.ensures.next c.report_if-two.ensures.next c.report_if-three.ensures.next _ c.requires)))

pub returns-clause-rows : goal.returns-clause-rows
returns-clause-rows c = let a = c.args in let one = c.report_if-one.ensures in let two = c.report_if-two.ensures in let three = c.report_if-three.ensures in let four = c.report_if.ensures in rows-put a.i a.r a.at one.next two.next three.next _ one.row two.row three.row four.row

pub returns-clause-next : goal.returns-clause-next
returns-clause-next c = let a = c.args in let one = c.report_if-one.ensures in let two = c.report_if-two.ensures in let three = c.report_if-three.ensures in let four = c.report_if.ensures in rows_next a.i a.r a.at one.next two.next three.next four.next
