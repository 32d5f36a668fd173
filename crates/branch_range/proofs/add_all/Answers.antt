use Rattle.branch_range.proofs.CellLaws.{filled, all_none, all-turn, all_end}
use Rattle.branch_range.proofs.Known.{held-good}
use Rattle.object_entry.proofs.Entries.{entry-field}
use mathlib.Core.Path.{◌∙◌, sym, refl}
use native.Mathlib.Omega.{arith}
use Rattle.branch_range.proofs.add_all.Goals as goal

pub overflow_mul-end : goal.overflow_mul-end
overflow_mul-end c = omega (arith, c.fill.ensures.len, c.requires.part_ready.1, c.ranges)

pub overflow_add-end : goal.overflow_add-end
overflow_add-end c = omega (arith, c.fill.ensures.len, c.requires.part_ready.1, c.ranges)

pub loop-i-init : goal.loop-i-init
loop-i-init c = all_none _ _ _ _ _ _ _ _ (filled (c.fill.ensures.after (λ y e. e))) (filled (c.fill-2.ensures.after (λ y e. e))) c.requires.to_len.2 c.requires.part_ready.1

pub field_in-g-requires : goal.field_in-g-requires
field_in-g-requires c = let a = c.args in (c.requires.part_ready.0.entries.ready, c.loop-i-test.true, held-good a.file.now a.t a.s c.requires.part_ready.0 _ c.loop-i-test.true)

pub add_one-requires-clause-part_ready : goal.add_one-requires-clause-part_ready
add_one-requires-clause-part_ready c = (c.requires.part_ready.0, c.loop-i-test.true, c.field_in-g.ensures)

pub add_one-requires-clause-to_len : goal.add_one-requires-clause-to_len
add_one-requires-clause-to_len c = (c.requires.to_len.0, c.requires.to_len.1, c.loop-i.invariant.high_size ∙ sym c.loop-i.invariant.low_size)

pub lower-next-requires : goal.lower-next-requires
lower-next-requires c = omega (arith, c.loop-i.invariant.further)

pub loop-i-preserved : goal.loop-i-preserved
loop-i-preserved c = let a = c.args in all-turn _ _ _ _ _ _ _ _ _ _ _ _ _ (c.field_in-g.ensures ∙ sym (entry-field a.file.now a.t a.s _)) refl c.loop-i.invariant c.add_one.ensures c.lower-next.ensures

pub returns : goal.returns
returns c = all_end _ _ _ _ _ _ _ _ _ _ c.loop-i.auto.i-end c.loop-i-test.false c.fill.ensures.len c.loop-i.invariant
