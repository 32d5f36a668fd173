use mathlib.Core.Path.{◌≡◌}
use Prim.Native.Nat.{◌≤◌, ◌-◌}
use lib.ListN.{length}
use Rattle.mend.specs.Mend.{put_all}
use Rattle.salvage.specs.Salvage.{changes_in}
use Rattle.salvage.proofs.Turn.{left_from}
use Rattle.salvage_file.proofs.mend_tables.Given as goal

abbrev pub invariant-loop-i : goal.invariant-loop-i
invariant-loop-i l = (l.i ≤ l.t.count) × (length l.copy ≡ length l.file) × (put_all l.t (left_from l.file l.t l.i) l.copy ≡ put_all l.t (changes_in l.file l.t) l.initial.copy)

abbrev pub decreases-loop-i : goal.decreases-loop-i
decreases-loop-i l = l.t.count - l.i
