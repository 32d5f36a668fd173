use mathlib.Core.Path.{◌≡◌}
use Prim.Native.Nat.{◌+◌, ◌*◌, ◌≤◌, ◌-◌}
use lib.ListN.{length}
use Rattle.salvage.specs.Salvage.{changes_in}
use Rattle.salvage.proofs.Turn.{left_from}
use Rattle.salvage_file.proofs.count_tables.Given as goal

abbrev pub invariant-loop-i : goal.invariant-loop-i
invariant-loop-i l = (l.i ≤ l.t.count) × (l.n ≤ 4 * l.i) × (l.n + length (left_from l.file l.t l.i) ≡ length (changes_in l.file l.t))

abbrev pub decreases-loop-i : goal.decreases-loop-i
decreases-loop-i l = l.t.count - l.i
