use Rattle.std.proofs.Common.{◌≡◌, ◌-◌}
use Rattle.object_history.specs.Entry.{apply_all}
use Rattle.object_plan.specs.Object.{entries_from, table_entries}
use Rattle.object_plan.specs.Shifts.{address_shifts}
use Rattle.object_apply.proofs.apply_table.Given as goal

abbrev pub invariant-loop-i : goal.invariant-loop-i
invariant-loop-i l = apply_all (entries_from l.file l.t l.s l.i (l.s.count - l.i)) (address_shifts l.to l.from) l.buffer ≡ apply_all (table_entries l.file l.t l.s) (address_shifts l.to l.from) l.initial.buffer
