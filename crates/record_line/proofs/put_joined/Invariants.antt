use Prim.Native.Nat.{◌+◌, ◌*◌}
use lib.Seq.{sets}
use lib.ListN.{drop}
use Rattle.record.specs.Count.{joined}
use mathlib.Core.Path.{◌≡◌}
use Rattle.record_line.proofs.put_joined.Given as goal

abbrev pub invariant-loop-i : goal.invariant-loop-i
invariant-loop-i l = sets l.dst (l.to + l.i) (joined (drop (2 * l.i) l.v)) ≡ sets l.initial.dst l.to (joined l.v)
