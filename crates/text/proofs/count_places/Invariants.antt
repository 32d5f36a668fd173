use Rattle.text.specs.Text.{places}
use Prim.Native.Nat.{◌+◌}
use mathlib.Core.Path.{◌≡◌}
use Rattle.text.proofs.count_places.Given as goal

-- Each division takes one place away, and what is left at the end has one.
abbrev pub invariant-loop-rest : goal.invariant-loop-rest
invariant-loop-rest l = l.n + places l.rest ≡ places l.v + 1

abbrev pub decreases-loop-rest : goal.decreases-loop-rest
decreases-loop-rest l = l.rest
