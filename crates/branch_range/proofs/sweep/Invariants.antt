use Rattle.branch_range.specs.Cells.{SweepOut}
use Rattle.branch_range.specs.Range.{word_from}
use Rattle.object_plan.specs.Shifts.{address_shifts}
use Rattle.object_entry.specs.Entry.{object_entry}
use Prim.Native.Nat.{◌+◌, ◌-◌, ◌*◌}
use lib.ListN.{length}
use mathlib.Core.Path.{◌≡◌}
use Rattle.branch_range.proofs.sweep.Given as goal

abbrev pub invariant-loop-base : goal.invariant-loop-base
invariant-loop-base l = (length l.low ≡ 65536) × (length l.high ≡ 65536) × (l.f ≡ l.t.format) × (l.end ≡ l.s.place + l.s.size) × (l.limit ≡ l.end + 4 * 65536) × SweepOut (object_entry l.file l.t l.s) l.s.count (address_shifts l.to l.from) (word_from l.bytes l.origin l.s) l.base l.first

abbrev pub decreases-loop-base : goal.decreases-loop-base
decreases-loop-base l = l.end - l.base
