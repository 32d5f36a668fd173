use Prim.Native.Nat.{◌-◌}
use lib.ListN.{length}
use mathlib.Core.Path.{◌≡◌}
use Rattle.refusal.specs.Order.{first_of}
use Rattle.object.specs.Sections.{bytes_before, entries_before}
use Rattle.object_plan.specs.Shifts.{address_shifts}
use Rattle.object_range.specs.Sections.{section_range}
use Rattle.object_range.proofs.check_sections.Given as goal

abbrev pub invariant-loop-k : goal.invariant-loop-k
invariant-loop-k l = (l.place ≡ bytes_before (length l.file) l.y l.k) × (l.first ≡ entries_before (length l.file) l.y l.k) × (first_of (section_range l.file l.y (address_shifts l.to l.from) l.source l.bytes) 0 l.y.count ≡ first_of (section_range l.file l.y (address_shifts l.to l.from) l.source l.bytes) l.k (l.y.count - l.k))
