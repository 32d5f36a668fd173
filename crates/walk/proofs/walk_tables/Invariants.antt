use mathlib.Core.Path.{◌≡◌}
use Prim.Native.Nat.{◌≤◌, ◌-◌}
use Rattle.walk.specs.Walk.{walk_in, end_of, visited_from}
use Rattle.walk.proofs.walk_tables.Given as goal

abbrev pub invariant-loop-i : goal.invariant-loop-i
invariant-loop-i l = (l.visited ≤ l.i) × (l.i ≤ l.t.count) × (walk_in l.file l.t ≡ end_of l.file l.t l.i l.visited (visited_from l.file l.t (l.t.count - l.visited) l.i))

abbrev pub decreases-loop-i : goal.decreases-loop-i
decreases-loop-i l = l.t.count - l.i
