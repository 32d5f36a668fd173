use borrow.Author.Tests.{lt-ltb, le-ltb}
use Rattle.word.proofs.Test.{found}
use Rattle.module.specs.Module.{module_in, module_check}
use Rattle.module_layout.proofs.module_in.Goals as goal

pub returns-then-y-l : goal.returns-then-y-l
unfolding module_in module_check
returns-then-y-l c = rw (lt-ltb _ _ (rw c.aux_layout-l.ensures at c.if-y-l.true))

pub join_parts-requires : goal.join_parts-requires
join_parts-requires c = (c.requires, rw c.aux_layout-l.ensures at c.if-y-l.false, c.tally_all-t.ensures, found c.has_one_each.ensures c.if-has_one_each.true)

pub returns-then-has_one_each : goal.returns-then-has_one_each
unfolding module_in module_check
returns-then-has_one_each c = rw (le-ltb _ _ (rw c.aux_layout-l.ensures at c.if-y-l.false), found (rw c.tally_all-t.ensures at c.has_one_each.ensures) c.if-has_one_each.true) c.join_parts.ensures

pub returns : goal.returns
unfolding module_in module_check
returns c = rw (le-ltb _ _ (rw c.aux_layout-l.ensures at c.if-y-l.false), found (rw c.tally_all-t.ensures at c.has_one_each.ensures) c.if-has_one_each.false)
