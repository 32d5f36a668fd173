use Rattle.std.proofs.Common.{rules}
use mathlib.Core.Path.{sym, ◌∙◌}
use Prim.Native.Nat.{◌+◌, ◌≤◌}
use native.Mathlib.Omega.{arith}
use Rattle.symbol.proofs.Opened.{entry_whole}
use Rattle.salvage.proofs.Turn.{next-inside, mend-start, mend-turn, mend-end, mend-keeps}
use Rattle.salvage_file.proofs.mend_tables.Goals as goal

pub loop-i-init : goal.loop-i-init
loop-i-init c = let a = c.args in (search rules, c.requires.1, mend-start a.file.now a.t _)

pub entry_in-e-requires : goal.entry_in-e-requires
entry_in-e-requires c = (c.requires.0, c.loop-i-test.true)

pub refusals_of-r-requires : goal.refusals_of-r-requires
refusals_of-r-requires c = (c.requires.0, c.loop-i-test.true)

pub mend_entry-requires : goal.mend_entry-requires
mend_entry-requires c = let a = c.args in (rw c.loop-i.invariant.1 (entry_whole a.file.now a.t c.loop-i.i c.requires.0 c.loop-i-test.true), c.loop-i-test.true)

pub overflow_add-i-in-loop-i-2 : goal.overflow_add-i-in-loop-i-2
overflow_add-i-in-loop-i-2 c = let k = (let fact : c.loop-i.i + 1 + c.mended_aux.result ≤ c.args.t.count = let a = c.args in next-inside a.file.now a.t c.requires.0 c.loop-i.i c.loop-i-test.true c.entry_in-e.ensures c.refusals_of-r.ensures c.mended_aux.ensures in fact) in omega arith

pub loop-i-smaller : goal.loop-i-smaller
loop-i-smaller c = let k = (let fact : c.loop-i.i + 1 + c.mended_aux.result ≤ c.args.t.count = let a = c.args in next-inside a.file.now a.t c.requires.0 c.loop-i.i c.loop-i-test.true c.entry_in-e.ensures c.refusals_of-r.ensures c.mended_aux.ensures in fact) in omega arith

pub loop-i-preserved : goal.loop-i-preserved
loop-i-preserved c = let a = c.args in let l = c.loop-i in let m = c.mend_entry.ensures in ((let fact : c.loop-i.i + 1 + c.mended_aux.result ≤ c.args.t.count = let a = c.args in next-inside a.file.now a.t c.requires.0 c.loop-i.i c.loop-i-test.true c.entry_in-e.ensures c.refusals_of-r.ensures c.mended_aux.ensures in fact), mend-keeps a.t _ _ _ l.copy m ∙ l.invariant.1, mend-turn a.file.now a.t c.requires.0 l.i c.loop-i-test.true c.entry_in-e.ensures c.refusals_of-r.ensures c.mended_aux.ensures l.copy m ∙ l.invariant.2)

pub returns : goal.returns
returns c = let a = c.args in let l = c.loop-i in sym (mend-end a.file.now a.t l.i l.copy c.loop-i-test.false) ∙ l.invariant.2
