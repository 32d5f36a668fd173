use Rattle.branch_range.proofs.CellLaws.{cell_set}
use Rattle.branch_range.proofs.add_to_cell.Goals as goal

pub returns : goal.returns
returns c = let a = c.args in cell_set a.low.now a.high.now a.x _ _ _ c.requires.x_in_bounds.0 c.requires.x_in_bounds.1 c.add_amount-new.ensures
