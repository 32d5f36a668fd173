use Rattle.std.proofs.Common.{rules}
use mathlib.Core.Path.{◌∙◌, sym, ap}
use native.Mathlib.Omega.{arith}
use Prim.Native.Nat.{◌+◌, ◌≤◌}
use Rattle.refusal.specs.Refusal.{is_refused}
use Rattle.walk.proofs.Steps.{walk_start, walk-refuses, walk-accepts, walk_inside, walk_end}
use Rattle.walk.proofs.walk_tables.Goals as goal

pub loop-i-init : goal.loop-i-init
loop-i-init c = (search rules, search rules, walk_start _ _)

pub entry_in-e-requires : goal.entry_in-e-requires
entry_in-e-requires c = (c.requires, c.loop-i-test.true)

pub check_entry-cause-requires : goal.check_entry-cause-requires
check_entry-cause-requires c = (c.requires, c.loop-i-test.true)

pub returns-in-Err : goal.returns-in-Err
returns-in-Err c = let a = c.args in let l = c.loop-i in rw (← c.in-Err.is) (sym (l.invariant.2 ∙ walk-refuses a.file.now a.t l.i l.visited l.invariant.0 c.loop-i-test.true c.entry_in-e.ensures c.check_entry-cause.ensures (ap is_refused c.in-Err.is)))

pub overflow_add-i-in-Ok : goal.overflow_add-i-in-Ok
overflow_add-i-in-Ok c = let k = (let fact : c.loop-i.i + 1 + c.entry_in-e.result.numaux ≤ c.args.t.count = let a = c.args in let l = c.loop-i in walk_inside a.file.now a.t l.i l.visited l.invariant.0 c.loop-i-test.true c.entry_in-e.ensures c.check_entry-cause.ensures (ap is_refused c.in-Ok.is) in fact) in omega arith

pub loop-i-smaller : goal.loop-i-smaller
loop-i-smaller c = let k = (let fact : c.loop-i.i + 1 + c.entry_in-e.result.numaux ≤ c.args.t.count = let a = c.args in let l = c.loop-i in walk_inside a.file.now a.t l.i l.visited l.invariant.0 c.loop-i-test.true c.entry_in-e.ensures c.check_entry-cause.ensures (ap is_refused c.in-Ok.is) in fact) in omega arith

pub loop-i-preserved : goal.loop-i-preserved
loop-i-preserved c = let a = c.args in let l = c.loop-i in let k = (let fact : c.loop-i.i + 1 + c.entry_in-e.result.numaux ≤ c.args.t.count = let a = c.args in let l = c.loop-i in walk_inside a.file.now a.t l.i l.visited l.invariant.0 c.loop-i-test.true c.entry_in-e.ensures c.check_entry-cause.ensures (ap is_refused c.in-Ok.is) in fact) in (omega arith, k, l.invariant.2 ∙ walk-accepts a.file.now a.t l.i l.visited l.invariant.0 c.loop-i-test.true c.entry_in-e.ensures c.check_entry-cause.ensures (ap is_refused c.in-Ok.is))

pub returns : goal.returns
returns c = let a = c.args in let l = c.loop-i in sym (l.invariant.2 ∙ walk_end a.file.now a.t _ l.i l.visited c.loop-i-test.false)
