use native.Mathlib.Omega.{arith}
use Rattle.branch_range.proofs.CellLaws.{cell-branch, judge-outside, judge-inside}
use Rattle.branch_range.proofs.is_out.Goals as goal

pub returns-then-n-c : goal.returns-then-n-c
returns-then-n-c c = let a = c.args in judge-outside _ a.base a.low.now a.high.now a.g c.cell_of-c.ensures c.if-n-c.true

pub read_word-v-requires : goal.read_word-v-requires
read_word-v-requires c = let a = c.args in c.requires.0 (cell-branch a.g a.base _ c.cell_of-c.ensures (omega (arith, c.if-n-c.false)))

pub returns : goal.returns
returns c = let a = c.args in judge-inside _ a.base a.low.now a.high.now a.g c.cell_of-c.ensures (omega (arith, c.if-n-c.false)) _ _ c.read_word-v.ensures c.add_value-sum.ensures c.is_in_range.ensures
