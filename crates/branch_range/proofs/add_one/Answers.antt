use Rattle.branch_range.proofs.CellLaws.{step-none, step-add}
use Rattle.branch_range.proofs.Known.{own-good, part-numbers}
use Rattle.object_entry.proofs.Entries.{entry-field}
use mathlib.Core.Path.{◌∙◌, sym}
use native.Mathlib.Omega.{arith}
use Rattle.branch_range.proofs.add_one.Goals as goal

pub returns-then-n-x : goal.returns-then-n-x
returns-then-n-x c = let a = c.args in step-none _ _ a.base a.i a.low.now a.high.now a.g (c.requires.part_ready.2 ∙ sym (entry-field a.file.now a.t a.s a.i)) c.cell_of-x.ensures c.if-n-x.true

pub entry_at-e-requires : goal.entry_at-e-requires
entry_at-e-requires c = let a = c.args in let p = c.requires.part_ready in (p.0.entries.tables, p.0.entries.ready, p.1, own-good a.file.now a.t a.s p.0 a.i p.1)

pub add_to_cell-requires-clause-to_len : goal.add_to_cell-requires-clause-to_len
add_to_cell-requires-clause-to_len c = let a = c.args in let p = c.requires in let n = part-numbers a.file.now a.t a.s p.part_ready.0 a.i p.part_ready.1 c.entry_at-e.ensures in (p.to_len.0, p.to_len.1, n.0, n.1)

pub add_to_cell-requires-clause-x_in_bounds : goal.add_to_cell-requires-clause-x_in_bounds
add_to_cell-requires-clause-x_in_bounds c = let a = c.args in let p = c.requires in let n = part-numbers a.file.now a.t a.s p.part_ready.0 a.i p.part_ready.1 c.entry_at-e.ensures in (omega (arith, c.if-n-x.false), omega (arith, c.if-n-x.false, p.to_len.2))

pub returns : goal.returns
returns c = let a = c.args in step-add _ _ a.base a.i a.low.now a.high.now _ _ a.g _ (c.requires.part_ready.2 ∙ sym (entry-field a.file.now a.t a.s a.i)) c.entry_at-e.ensures c.cell_of-x.ensures (omega (arith, c.if-n-x.false)) c.add_to_cell.ensures
