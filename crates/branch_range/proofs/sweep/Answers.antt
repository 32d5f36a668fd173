use Rattle.branch_range.proofs.CellLaws.{sweep-none, sweep-turn, sweep-first}
use Rattle.branch_range.proofs.Known.{part-readable, part-words, part_small}
use Rattle.object_entry.proofs.Entries.{entry-field}
use mathlib.Core.Path.{◌∙◌, sym, refl}
use native.Mathlib.Omega.{arith}
use Rattle.branch_range.proofs.sweep.Goals as goal

pub overflow_add-end : goal.overflow_add-end
overflow_add-end c = omega (arith, c.requires.part_ready.0.entries.ready.placed)

pub overflow_mul-limit : goal.overflow_mul-limit
overflow_mul-limit c = omega (arith, c.requires.to_len.2)

pub overflow_add-limit : goal.overflow_add-limit
overflow_add-limit c = omega (arith, c.requires.part_ready.0.entries.ready.placed, c.requires.to_len.2)

pub loop-base-init : goal.loop-base-init
loop-base-init c = let a = c.args in (c.requires.to_len.2, c.requires.to_len.3, refl, refl, omega (arith, c.requires.to_len.2), sweep-none _ _ _ (part-words a.file.now a.t a.s c.requires.part_ready.0) _)

pub add_all-next-requires-clause-part_ready : goal.add_all-next-requires-clause-part_ready
add_all-next-requires-clause-part_ready c = let v = c.loop-base.invariant in (c.requires.part_ready.0, omega (arith, v.0, v.4, c.loop-base-test.true))

pub add_all-next-requires-clause-to_len : goal.add_all-next-requires-clause-to_len
add_all-next-requires-clause-to_len c = let v = c.loop-base.invariant in (c.requires.to_len.0, c.requires.to_len.1, v.1 ∙ sym v.0)

pub scan-first-requires : goal.scan-first-requires
scan-first-requires c = let a = c.args in let m = c.add_all-next.ensures in (part-readable a.file.now a.t a.s c.requires.part_ready.0 _ c.loop-base.invariant.5.within, m.high_size ∙ sym m.low_size, c.requires.part_ready.1)

pub loop-base-smaller : goal.loop-base-smaller
loop-base-smaller c = omega (arith, c.loop-base-test.true, c.loop-base.invariant.0, c.add_all-next.ensures.further)

pub loop-base-preserved : goal.loop-base-preserved
loop-base-preserved c = let a = c.args in let v = c.loop-base.invariant in let m = c.add_all-next.ensures in let p = c.requires.part_ready.0 in (m.low_size ∙ v.0, m.high_size ∙ v.0, v.2, v.3, v.4, sweep-turn _ _ _ (part-words a.file.now a.t a.s p) _ (part_small a.file.now a.t a.s a.to.now a.from.now p (λ j. (c.shared_slice_known-2-1.given j).fits) (λ j. (c.shared_slice_known-3-1.given j).fits)) _ _ _ _ _ _ _ _ (λ i. entry-field a.file.now a.t a.s i) v.5 m c.scan-first.ensures)

pub shape_of-low : goal.shape_of-low
shape_of-low c = c.loop-base.invariant.0 ∙ sym c.requires.to_len.2

pub shape_of-high : goal.shape_of-high
shape_of-high c = c.loop-base.invariant.1 ∙ sym c.requires.to_len.3

pub returns : goal.returns
returns c = let a = c.args in sweep-first _ _ _ (part-words a.file.now a.t a.s c.requires.part_ready.0) _ _ _ (omega (arith, c.loop-base-test.false, c.loop-base.invariant.3)) c.loop-base.invariant.5
