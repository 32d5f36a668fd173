use Rattle.object.proofs.Sections.{check-other, check-raw, check-table}
use Rattle.object.proofs.check_section.Goals as goal

pub returns-then-not-is_held_kind : goal.returns-then-not-is_held_kind
returns-then-not-is_held_kind c = let a = c.args in check-other a.len a.y a.k c.is_held_kind.ensures c.if-not-is_held_kind.true

pub returns-then-lacks_data : goal.returns-then-lacks_data
returns-then-lacks_data c = let a = c.args in check-raw a.len a.y a.k c.is_held_kind.ensures c.if-not-is_held_kind.false c.lacks_data.ensures c.if-lacks_data.true

pub returns : goal.returns
returns c = let a = c.args in check-table a.len a.y a.k c.is_held_kind.ensures c.if-not-is_held_kind.false c.lacks_data.ensures c.if-lacks_data.false c.find_table-a.ensures c.table_verdict.ensures
