use native.Mathlib.Nat.{add-sub_cancel_left}
use native.Mathlib.Omega.{arith}
use Rattle.word.specs.Zero.{zeros_in}
use Rattle.loader_header.proofs.Places.{table-in, place-full}
use Rattle.loader_header.proofs.count_id_zeros.Goals as goal

pub returns-then-h-eq0 : goal.returns-then-h-eq0
unfolding zeros_in
returns-then-h-eq0 c = rw c.if-h-eq0.true

pub overflow_add-from : goal.overflow_add-from
overflow_add-from c = let a = c.args in let h = table-in a.h.impoff a.h.istlen a.size c.requires.1 c.if-h-eq0.false in omega arith

pub overflow_add-to : goal.overflow_add-to
overflow_add-to c = let a = c.args in let h = table-in a.h.impoff a.h.istlen a.size c.requires.1 c.if-h-eq0.false in omega arith

pub slice_bounds-count_zeros-end : goal.slice_bounds-count_zeros-end
slice_bounds-count_zeros-end c = let a = c.args in let h = table-in a.h.impoff a.h.istlen a.size c.requires.1 c.if-h-eq0.false in omega arith

pub returns : goal.returns
returns c = rw (place-full c.args.start c.args.h.impoff c.args.h.istlen c.if-h-eq0.false) (simp add-sub_cancel_left at c.count_zeros.ensures)
