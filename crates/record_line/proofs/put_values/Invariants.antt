use Prim.Native.Nat.{◌+◌, ◌-◌, ◌≤◌}
use lib.Seq.{sets}
use Rattle.record.specs.Count.{misses, values_at, digits_of}
use mathlib.Core.Path.{◌≡◌}
use Rattle.record_line.proofs.put_values.Given as goal

abbrev pub invariant-loop-i : goal.invariant-loop-i
invariant-loop-i l = (sets l.v l.i (values_at l.t (l.p + l.i) (64 - l.i)) ≡ sets l.initial.v 0 (values_at l.t l.p 64)) × (l.wrong + misses l.t (l.p + l.i) (digits_of (values_at l.t (l.p + l.i) (64 - l.i))) ≡ misses l.t l.p (digits_of (values_at l.t l.p 64))) × (l.wrong ≤ l.i)
