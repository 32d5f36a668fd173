use Prim.Native.Nat.{◌-◌, ◌≤◌}
use mathlib.Core.Path.{◌≡◌}
use lib.ListN.{length}
use Rattle.object_plan.specs.Object.{object_of}
use Rattle.object_replay.proofs.Answer.{Left}
use Rattle.object_replay.proofs.replay_object.Given as goal

abbrev pub invariant-loop-at : goal.invariant-loop-at
invariant-loop-at l = (length l.buffer ≡ length l.initial.buffer) × Left (object_of l.file) l.script l.at l.calls l.accepted l.last l.buffer l.initial.buffer × ((l.accepted ≤ l.calls) × (l.calls ≤ l.at))

abbrev pub decreases-loop-at : goal.decreases-loop-at
decreases-loop-at l = length l.script - l.at
