use mathlib.Core.Path.{◌≡◌}
use lib.ListN.{get_or}
use Rattle.object_shifts.specs.Places.{places_by}
use Rattle.object_shifts.proofs.plan_places.Given as goal

abbrev pub invariant-loop-k : goal.invariant-loop-k
invariant-loop-k l = l.out ≡ places_by l.sections (λ j. get_or l.p j 0) l.k
