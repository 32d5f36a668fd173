use Prim.Native.Nat.{◌+◌, ◌-◌, ◌*◌}
use lib.Seq.{sets}
use Rattle.record.specs.Record.{data_at}
use mathlib.Core.Path.{◌≡◌}
use Rattle.record_line.proofs.fill_run.Given as goal

abbrev pub invariant-loop-i : goal.invariant-loop-i
invariant-loop-i l = sets l.dst (l.to + l.i) (data_at l.t (l.p + 2 * l.i) (l.n - l.i)) ≡ sets l.initial.dst l.to (data_at l.t l.p l.n)
