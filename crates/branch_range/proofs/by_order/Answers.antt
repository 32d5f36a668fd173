use Rattle.branch_range.proofs.Order.{order-none, order-end}
use Rattle.branch_range.proofs.Known.{part-readable, part_small}
use Rattle.section_overlap.proofs.Rule.{no_true}
use Rattle.object_entry.proofs.Entries.{entry-field}
use borrow.Author.Tests.{not-false}
use native.Mathlib.Omega.{arith}
use Rattle.branch_range.proofs.by_order.Goals as goal

pub first_branch-k-requires : goal.first_branch-k-requires
first_branch-k-requires c = let a = c.args in part-readable a.file.now a.t a.s c.requires.part_ready.0 _ (omega arith)

pub returns-then-n-k : goal.returns-then-n-k
returns-then-n-k c = let a = c.args in λ _. order-none _ _ _ _ (λ j. entry-field a.file.now a.t a.s j) _ _ c.if-n-k.true c.first_branch-k.ensures

pub begin-run-requires-clause-part_ready : goal.begin-run-requires-clause-part_ready
begin-run-requires-clause-part_ready c = let p = c.requires in (p.part_ready.0, omega (arith, c.if-n-k.false), c.first_branch-k.ensures)

pub begin-run-requires-clause-to_len : goal.begin-run-requires-clause-to_len
begin-run-requires-clause-to_len c = let p = c.requires in (p.to_len.0, p.to_len.1, p.part_ready.1)

pub loop-i-init : goal.loop-i-init
loop-i-init c = c.begin-run.ensures

pub step_order-a-requires-clause-part_ready : goal.step_order-a-requires-clause-part_ready
step_order-a-requires-clause-part_ready c = let p = c.requires in (p.part_ready.0, c.loop-i-test.true, p.part_ready.1)

pub step_order-a-requires-clause-to_len : goal.step_order-a-requires-clause-to_len
step_order-a-requires-clause-to_len c = let p = c.requires in (p.to_len.0, p.to_len.1)

pub step_order-a-requires-clause-ascended : goal.step_order-a-requires-clause-ascended
step_order-a-requires-clause-ascended c = c.loop-i.invariant

pub returns-then-not-a : goal.returns-then-not-a
returns-then-not-a c = no_true

pub loop-i-preserved : goal.loop-i-preserved
loop-i-preserved c = c.step_order-a.ensures (not-false _ c.if-not-a.false)

pub returns : goal.returns
returns c = let a = c.args in λ _. order-end _ _ _ _ _ _ (c.loop-i.auto.i-end (omega (arith, c.if-n-k.false))) c.loop-i-test.false c.loop-i.invariant (part_small a.file.now a.t a.s a.to.now a.from.now c.requires.part_ready.0 (λ j. (c.shared_slice_known-2-1.given j).fits) (λ j. (c.shared_slice_known-3-1.given j).fits)) c.close.ensures
