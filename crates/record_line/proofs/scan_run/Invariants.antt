use Prim.Native.Nat.{◌+◌, ◌-◌, ◌*◌, ◌≤◌}
use Rattle.record.specs.Count.{misses}
use Rattle.record.specs.Record.{data_at, sum_of, hex_of}
use mathlib.Core.Path.{◌≡◌}
use Rattle.record_line.proofs.scan_run.Given as goal

abbrev pub invariant-loop-i : goal.invariant-loop-i
invariant-loop-i l = (l.sum + sum_of (data_at l.t (l.p + 2 * l.i) (l.n - l.i)) ≡ sum_of (data_at l.t l.p l.n)) × (l.wrong + misses l.t (l.p + 2 * l.i) (hex_of (data_at l.t (l.p + 2 * l.i) (l.n - l.i))) ≡ misses l.t l.p (hex_of (data_at l.t l.p l.n))) × (l.sum ≤ 255 * l.i) × (l.wrong ≤ 2 * l.i)
