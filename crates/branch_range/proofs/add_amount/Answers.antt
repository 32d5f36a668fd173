use Rattle.branch_range.proofs.Amounts.{added-plus, added-minus, added-relative}
use Rattle.branch_range.proofs.add_amount.Goals as goal

pub returns-in-Plus : goal.returns-in-Plus
returns-in-Plus c = let a = c.args in added-plus _ a.to.now a.from.now a.e.symbol a.e.name.section.0 c.in-Plus.is c.add_shift.ensures

pub returns-in-Minus : goal.returns-in-Minus
returns-in-Minus c = let a = c.args in added-minus _ a.to.now a.from.now a.e.symbol a.e.name.section.0 c.in-Minus.is c.add_shift-in-Minus.ensures

pub returns-in-Relative : goal.returns-in-Relative
returns-in-Relative c = let a = c.args in added-relative _ a.to.now a.from.now a.e.symbol a.e.name.section.0 c.in-Relative.is c.add_shift-x.ensures c.add_shift-in-Relative.ensures
