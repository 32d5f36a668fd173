use Rattle.line.proofs.Block.{row-added}
use Rattle.line.proofs.add.Goals as goal

pub returns : goal.returns
returns c = let a = c.args in row-added a.b a.e c.line_row-row.ensures
