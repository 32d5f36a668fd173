use Rattle.branch_range.proofs.CellLaws.{cell-plain, cell_below, cell-there, cell-past}
use mathlib.Core.Path.{◌∙◌, sym}
use Rattle.branch_range.proofs.cell_of.Goals as goal

pub returns-then-not-is_branch : goal.returns-then-not-is_branch
returns-then-not-is_branch c = let a = c.args in cell-plain a.g a.base a.n (sym c.is_branch.ensures ∙ c.if-not-is_branch.true)

pub returns-then-g-base : goal.returns-then-g-base
returns-then-g-base c = let a = c.args in cell_below a.g a.base a.n (sym c.is_branch.ensures ∙ c.if-not-is_branch.false) c.if-g-base.true

pub returns-then-x-n : goal.returns-then-x-n
returns-then-x-n c = let a = c.args in cell-there a.g a.base a.n (sym c.is_branch.ensures ∙ c.if-not-is_branch.false) c.if-g-base.false c.if-x-n.true

pub returns : goal.returns
returns c = let a = c.args in cell-past a.g a.base a.n (sym c.is_branch.ensures ∙ c.if-not-is_branch.false) c.if-g-base.false c.if-x-n.false
