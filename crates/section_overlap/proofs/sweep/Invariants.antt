use lib.ListN.{length}
use Prim.Native.Nat.{◌+◌, ◌-◌}
use mathlib.Core.Path.{◌≡◌}
use Rattle.section_relocation.specs.Entry.{field_in}
use Rattle.section_overlap.specs.Cells.{SweepOut}
use Rattle.section_overlap.proofs.sweep.Given as goal

abbrev pub invariant-loop-base : goal.invariant-loop-base
invariant-loop-base l = (length l.cells ≡ length l.initial.cells) × (l.end ≡ l.s.place + l.s.size) × (l.limit ≡ l.end + length l.initial.cells) × SweepOut (field_in l.file l.f l.s) l.base l.n l.first

abbrev pub decreases-loop-base : goal.decreases-loop-base
decreases-loop-base l = l.end - l.base
