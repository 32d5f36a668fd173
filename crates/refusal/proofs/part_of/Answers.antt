use native.Mathlib.Nat.{add-sub_cancel_left}
use native.Mathlib.Omega.{arith}
use Rattle.refusal.proofs.part_of.Goals as goal

pub overflow_add-end : goal.overflow_add-end
overflow_add-end c = let h = rw c.in-Ok.is at c.requires in omega arith

pub slice_bounds-result-end-2 : goal.slice_bounds-result-end-2
slice_bounds-result-end-2 c = let h = rw c.in-Ok.is at c.requires in omega arith

pub returns : goal.returns
returns c = rw c.in-Ok.is (simp add-sub_cancel_left)
