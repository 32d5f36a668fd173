use mathlib.Core.Path.{◌∙◌}
use Rattle.table_replay.proofs.Ends.{row-name, no_name}
use Rattle.table_replay.proofs.name_length.Goals as goal

pub returns-then-number_at-lt3 : goal.returns-then-number_at-lt3
returns-then-number_at-lt3 c = let a = c.args in c.number_at-then-number_at-lt3.ensures ∙ row-name a.s.now a.at (rw c.number_at.ensures at c.if-number_at-lt3.true)

pub returns : goal.returns
returns c = let a = c.args in no_name a.s.now a.at (rw c.number_at.ensures at c.if-number_at-lt3.false)
