use Rattle.branch_range.specs.Cells.{AllOut}
use Rattle.object_plan.specs.Shifts.{address_shifts}
use Rattle.object_entry.specs.Entry.{object_entry}
use lib.ListN.{length}
use Rattle.branch_range.proofs.add_all.Given as goal

abbrev pub invariant-loop-i : goal.invariant-loop-i
invariant-loop-i l = AllOut (object_entry l.file l.t l.s) (address_shifts l.to l.from) l.i l.base (length l.initial.low) l.next l.low l.high
