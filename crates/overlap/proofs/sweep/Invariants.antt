use lib.ListN.{length}
use Prim.Native.Nat.{◌+◌, ◌-◌}
use mathlib.Core.Path.{◌≡◌}
use Rattle.overlap.specs.Cells.{SweepOut}
use Rattle.relocation.specs.Relocation.{place_at}
use Rattle.overlap.proofs.sweep.Given as goal

abbrev pub invariant-loop-base : goal.invariant-loop-base
invariant-loop-base l = (length l.cells ≡ length l.initial.cells) × (l.limit ≡ l.size + length l.initial.cells) × SweepOut (place_at l.file l.f l.p l.t) l.text l.base l.n l.first

abbrev pub decreases-loop-base : goal.decreases-loop-base
decreases-loop-base l = l.size - l.base
