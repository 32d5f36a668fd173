use Rattle.section_relocation.specs.Entry.{field_in}
use Rattle.branch_range.proofs.Order.{branch-told, step-plain, step_same, step-new}
use Rattle.branch_range.proofs.Known.{held-good, part_small}
use Rattle.object_entry.proofs.Entries.{entry-field}
use borrow.Author.Tests.{ltb-true}
use Rattle.branch_range.proofs.step_order.Goals as goal

pub field_in-g-requires : goal.field_in-g-requires
field_in-g-requires c = let a = c.args in let p = c.requires.part_ready in (p.0.entries.ready, p.1, held-good a.file.now a.t a.s p.0 _ p.1)

pub returns-then-not-is_branch : goal.returns-then-not-is_branch
returns-then-not-is_branch c = let a = c.args in λ _. step-plain _ _ _ _ (λ j. entry-field a.file.now a.t a.s j) _ _ _ _ c.field_in-g.ensures c.is_branch.ensures c.if-not-is_branch.true c.requires.ascended

pub returns-then-g-run : goal.returns-then-g-run
returns-then-g-run c = let a = c.args in λ _. step_same _ _ _ _ (λ j. entry-field a.file.now a.t a.s j) _ _ _ _ _ c.field_in-g.ensures c.is_branch.ensures c.if-not-is_branch.false c.if-g-run.true c.requires.ascended c.continue_word.ensures

pub start_word-requires-clause-part_ready : goal.start_word-requires-clause-part_ready
start_word-requires-clause-part_ready c = let a = c.args in let p = c.requires in (p.part_ready.0, p.part_ready.1, branch-told (field_in a.file.now a.t.format a.s) a.i _ c.field_in-g.ensures c.is_branch.ensures c.if-not-is_branch.false)

pub start_word-requires-clause-to_len : goal.start_word-requires-clause-to_len
start_word-requires-clause-to_len c = let a = c.args in let p = c.requires in (p.to_len.0, p.to_len.1, p.part_ready.2)

pub returns : goal.returns
returns c = let a = c.args in let p = c.requires in λ h. step-new _ _ _ _ (λ j. entry-field a.file.now a.t a.s j) _ _ _ _ _ _ _ c.field_in-g.ensures c.is_branch.ensures c.if-not-is_branch.false (ltb-true _ _ h) p.ascended (part_small a.file.now a.t a.s a.to.now a.from.now p.part_ready.0 (λ j. (c.shared_slice_known-2-1.given j).fits) (λ j. (c.shared_slice_known-3-1.given j).fits)) p.part_ready.1 c.close.ensures c.start_word.ensures
