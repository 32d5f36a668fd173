use Prim.Native.Nat.{◌+◌, ◌-◌, ◌*◌}
use lib.Seq.{sets}
use lib.ListN.{take, drop}
use Rattle.record.specs.Record.{hex_of}
use mathlib.Core.Path.{◌≡◌}
use Rattle.record_line.proofs.put_run.Given as goal

abbrev pub invariant-loop-i : goal.invariant-loop-i
invariant-loop-i l = sets l.out (l.at + 2 * l.i) (hex_of (take (l.n - l.i) (drop (l.from + l.i) l.image))) ≡ sets l.initial.out l.at (hex_of (take l.n (drop l.from l.image)))
