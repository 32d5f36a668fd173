use Rattle.branch_range.proofs.Order.{branch-stop, branch-turn, branch-end}
use Rattle.section_relocation.specs.Entry.{field_in}
use Rattle.branch_range.proofs.first_branch.Goals as goal

pub field_in-g-requires : goal.field_in-g-requires
field_in-g-requires c = let r = c.requires in (r.ready, c.loop-i-test.true, r.held _ c.loop-i-test.true)

pub returns-then-is_branch : goal.returns-then-is_branch
returns-then-is_branch c = let a = c.args in branch-stop (field_in a.file.now a.f a.s) _ c.loop-i.invariant _ _ c.loop-i-test.true c.field_in-g.ensures c.is_branch.ensures c.if-is_branch.true

pub loop-i-preserved : goal.loop-i-preserved
loop-i-preserved c = let a = c.args in branch-turn (field_in a.file.now a.f a.s) _ c.loop-i.invariant _ c.field_in-g.ensures c.is_branch.ensures c.if-is_branch.false

pub returns : goal.returns
returns c = let a = c.args in branch-end (field_in a.file.now a.f a.s) _ c.loop-i.invariant _ c.loop-i-test.false
