use lib.ListN.{length}
use mathlib.Core.Path.{◌≡◌}
use Prim.Native.Nat.{◌-◌, ◌≤◌}
use Rattle.history.specs.Images.{images}
use Rattle.plan.specs.Relocatable.{relocatable_at}
use Rattle.replay.proofs.Answer.{Left}
use Rattle.replay_calls.proofs.replay.Given as goal

abbrev pub invariant-loop-at : goal.invariant-loop-at
invariant-loop-at l =
    (length l.text ≡ length l.initial.text) × (length l.data ≡ length l.initial.data)
    × Left (relocatable_at l.file) l.script l.at l.calls l.accepted l.last (images l.text l.data) (images l.initial.text l.initial.data)
    × ((l.accepted ≤ l.calls) × (l.calls ≤ l.at))

abbrev pub decreases-loop-at : goal.decreases-loop-at
decreases-loop-at l = length l.script - l.at
