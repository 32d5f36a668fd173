use Rattle.branch_range.specs.Order.{Ascended}
use Rattle.branch_range.specs.Range.{word_from}
use Rattle.object_plan.specs.Shifts.{address_shifts}
use Rattle.object_entry.specs.Entry.{object_entry}
use Rattle.branch_range.proofs.by_order.Given as goal

abbrev pub invariant-loop-i : goal.invariant-loop-i
invariant-loop-i l = Ascended (object_entry l.file l.t l.s) (address_shifts l.to l.from) (word_from l.bytes l.origin l.s) l.s.count l.i l.run
