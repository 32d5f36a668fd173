use mathlib.Core.Path.{◌∙◌}
use Rattle.rows.proofs.Laws.{writing-next, writing-end}
use Rattle.rows.proofs.write_rows.Goals as goal

-- what is asked: the room, the rows' width, that `row` may be called, and what it gives
pub loop-i-preserved : goal.loop-i-preserved
loop-i-preserved g c = let asked = c.requires.1.1 in let a = c.args in let l = c.loop-i in let given = asked.1.1.1 in writing-next g.wanted a.width asked.1.0 l.out a.count l.i c.loop-i-test.true (c.as_slice.ensures ∙ given l.i c.row-numbers.result c.loop-i-test.true c.row-numbers.ensures) c.write_row.ensures l.invariant

pub returns : goal.returns
returns g c = let asked = c.requires.1.1 in let a = c.args in let l = c.loop-i in writing-end g.wanted a.width asked.1.0 a.out.now a.count l.i c.loop-i-test.false asked.0 l.invariant
