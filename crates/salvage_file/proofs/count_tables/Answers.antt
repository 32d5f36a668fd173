use Rattle.std.proofs.Common.{rules}
use Rattle.symbol.proofs.Opened.{tables-inside}
use Prim.Native.Nat.{◌+◌, ◌≤◌}
use native.Mathlib.Omega.{arith}
use Rattle.salvage.proofs.Turn.{next-inside, count-start, count_turn, count-end}
use Rattle.salvage_file.proofs.count_tables.Goals as goal

pub loop-i-init : goal.loop-i-init
loop-i-init c = let a = c.args in (search rules, search rules, count-start a.file.now a.t)

pub entry_in-e-requires : goal.entry_in-e-requires
entry_in-e-requires c = (c.requires, c.loop-i-test.true)

pub refusals_of-r-requires : goal.refusals_of-r-requires
refusals_of-r-requires c = (c.requires, c.loop-i-test.true)

pub overflow_add-n : goal.overflow_add-n
overflow_add-n c = let a = c.args in let i = tables-inside a.file.now a.t c.requires in let l = c.loop-i in omega (arith, i.small, i.symbols, l.invariant.1, c.loop-i-test.true, c.count_refusals-n.ensures.bound)

pub overflow_add-i-in-loop-i-2 : goal.overflow_add-i-in-loop-i-2
overflow_add-i-in-loop-i-2 c = let k = (let fact : c.loop-i.i + 1 + c.mended_aux.result ≤ c.args.t.count = let a = c.args in next-inside a.file.now a.t c.requires c.loop-i.i c.loop-i-test.true c.entry_in-e.ensures c.refusals_of-r.ensures c.mended_aux.ensures in fact) in omega arith

pub loop-i-smaller : goal.loop-i-smaller
loop-i-smaller c = let k = (let fact : c.loop-i.i + 1 + c.mended_aux.result ≤ c.args.t.count = let a = c.args in next-inside a.file.now a.t c.requires c.loop-i.i c.loop-i-test.true c.entry_in-e.ensures c.refusals_of-r.ensures c.mended_aux.ensures in fact) in omega arith

pub loop-i-preserved : goal.loop-i-preserved
loop-i-preserved c = let a = c.args in let l = c.loop-i in let k = (let fact : c.loop-i.i + 1 + c.mended_aux.result ≤ c.args.t.count = let a = c.args in next-inside a.file.now a.t c.requires c.loop-i.i c.loop-i-test.true c.entry_in-e.ensures c.refusals_of-r.ensures c.mended_aux.ensures in fact) in (k, omega (arith, l.invariant.1, c.count_refusals-n.ensures.bound), count_turn a.file.now a.t c.requires l.i c.loop-i-test.true c.entry_in-e.ensures c.refusals_of-r.ensures c.mended_aux.ensures l.n _ c.count_refusals-n.ensures.value l.invariant.2)

pub returns-clause-value : goal.returns-clause-value
returns-clause-value c = let a = c.args in let l = c.loop-i in count-end a.file.now a.t l.i l.n _ c.loop-i-test.false l.invariant.2

pub returns-clause-bound : goal.returns-clause-bound
returns-clause-bound c = let a = c.args in let l = c.loop-i in omega (arith, l.invariant.0, l.invariant.1)
