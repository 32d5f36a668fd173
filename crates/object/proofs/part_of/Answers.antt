use mathlib.Core.Path.{◌∙◌}
use Rattle.object.proofs.Sections.{part_none, part-some}
use Rattle.object.proofs.part_of.Goals as goal

pub returns-then-not-is_held_kind : goal.returns-then-not-is_held_kind
returns-then-not-is_held_kind c = let a = c.args in c.empty_part.ensures ∙ part_none a.len a.y a.k a.place a.first c.is_held_kind.ensures c.if-not-is_held_kind.true

pub returns : goal.returns
returns c = let a = c.args in part-some a.len a.y a.k a.place a.first c.is_held_kind.ensures c.if-not-is_held_kind.false c.find_table-a.ensures c.table_or-t.ensures
