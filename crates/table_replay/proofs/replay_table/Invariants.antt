use lib.ListN.{length}
use mathlib.Core.Path.{◌≡◌}
use Prim.Native.Nat.{◌-◌, ◌≤◌}
use Rattle.address_fill.specs.Fill.{places_at}
use Rattle.table_replay.proofs.Answer.{Left, answered}
use Rattle.table_replay.proofs.replay_table.Given as goal

abbrev pub invariant-loop-at : goal.invariant-loop-at
invariant-loop-at l =
    (length l.list ≡ length l.initial.list)
    × Left (places_at l.file) (length l.initial.list) l.script l.at (answered l.calls l.accepted l.last) l.table l.list l.initial.table l.initial.list
    × ((l.accepted ≤ l.calls) × (l.calls ≤ l.at) × (l.at ≤ length l.script))

abbrev pub decreases-loop-at : goal.decreases-loop-at
decreases-loop-at l = length l.script - l.at
