use Rattle.std.proofs.Common.{sym, ◌∙◌}
use Rattle.object_plan.specs.Shifts.{address_shifts}
use Rattle.object_apply.proofs.Entries.{all-turn, all_end}
use Rattle.object_apply.proofs.apply_table.Goals as goal

pub loop-i-preserved : goal.loop-i-preserved
loop-i-preserved c = let a = c.args in all-turn a.file.now a.t a.s (address_shifts a.to.now a.from.now) a.s.count c.loop-i.i c.loop-i.buffer c.loop-i-test.true c.apply_entry.ensures ∙ c.loop-i.invariant

pub returns : goal.returns
returns c = let a = c.args in sym (all_end a.file.now a.t a.s (address_shifts a.to.now a.from.now) a.s.count c.loop-i.i c.loop-i.buffer c.loop-i-test.false) ∙ c.loop-i.invariant
