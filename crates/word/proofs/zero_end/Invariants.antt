use Prim.Native.Nat.{◌≤◌}
use lib.ListN.{length, take}
use mathlib.Core.Path.{◌≡◌}
use Rattle.word.specs.Zero.{zero_end}
use Rattle.word.proofs.zero_end.Given as goal

abbrev pub invariant-loop-end : goal.invariant-loop-end
invariant-loop-end l = (l.end ≤ length l.s) × (zero_end (take l.end l.s) ≡ zero_end l.s)

abbrev pub decreases-loop-end : goal.decreases-loop-end
decreases-loop-end l = l.end
