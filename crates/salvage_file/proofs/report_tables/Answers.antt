use Rattle.std.proofs.Common.{rules}
use mathlib.Core.Path.{refl, sym, ◌∙◌}
use Prim.Native.Nat.{◌+◌, ◌≤◌}
use lib.ListN.{length}
use native.Mathlib.Omega.{arith}
use Rattle.salvage.proofs.Turn.{next-inside, report-room, report-start, entry-room, room_next, report-turn, report-end, report-keeps}
use Rattle.salvage_file.proofs.report_tables.Goals as goal

pub loop-i-init : goal.loop-i-init
loop-i-init c = let a = c.args in (search rules, refl, report-room a.file.now a.t _ c.requires.1, report-start a.file.now a.t _)

pub entry_in-e-requires : goal.entry_in-e-requires
entry_in-e-requires c = (c.requires.0, c.loop-i-test.true)

pub refusals_of-r-requires : goal.refusals_of-r-requires
refusals_of-r-requires c = (c.requires.0, c.loop-i-test.true)

pub report_entry-at-requires : goal.report_entry-at-requires
report_entry-at-requires c = let a = c.args in let l = c.loop-i in entry-room a.file.now a.t c.requires.0 l.i c.loop-i-test.true c.entry_in-e.ensures c.refusals_of-r.ensures l.at (length l.report) l.invariant.2

pub overflow_add-i-in-loop-i-2 : goal.overflow_add-i-in-loop-i-2
overflow_add-i-in-loop-i-2 c = let k = (let fact : c.loop-i.i + 1 + c.mended_aux.result ≤ c.args.t.count = let a = c.args in next-inside a.file.now a.t c.requires.0 c.loop-i.i c.loop-i-test.true c.entry_in-e.ensures c.refusals_of-r.ensures c.mended_aux.ensures in fact) in omega arith

pub loop-i-smaller : goal.loop-i-smaller
loop-i-smaller c = let k = (let fact : c.loop-i.i + 1 + c.mended_aux.result ≤ c.args.t.count = let a = c.args in next-inside a.file.now a.t c.requires.0 c.loop-i.i c.loop-i-test.true c.entry_in-e.ensures c.refusals_of-r.ensures c.mended_aux.ensures in fact) in omega arith

pub loop-i-preserved : goal.loop-i-preserved
loop-i-preserved c = let a = c.args in let l = c.loop-i in let m = c.report_entry-at.ensures in ((let fact : c.loop-i.i + 1 + c.mended_aux.result ≤ c.args.t.count = let a = c.args in next-inside a.file.now a.t c.requires.0 c.loop-i.i c.loop-i-test.true c.entry_in-e.ensures c.refusals_of-r.ensures c.mended_aux.ensures in fact), report-keeps l.at _ l.report m.rows ∙ l.invariant.1, room_next a.file.now a.t c.requires.0 l.i c.loop-i-test.true c.entry_in-e.ensures c.refusals_of-r.ensures c.mended_aux.ensures l.at l.report m.rows m.next l.invariant.2, report-turn a.file.now a.t c.requires.0 l.i c.loop-i-test.true c.entry_in-e.ensures c.refusals_of-r.ensures c.mended_aux.ensures l.at l.report m.rows m.next ∙ l.invariant.3)

pub returns : goal.returns
returns c = let a = c.args in let l = c.loop-i in sym (report-end a.file.now a.t l.i l.at l.report c.loop-i-test.false) ∙ l.invariant.3
