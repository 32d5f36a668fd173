use lib.ListN.{drop, replicate}
use lib.Seq.{sets}
use mathlib.Core.Path.{◌≡◌}
use Rattle.table_replay.specs.Script.{bytes_at}
use Rattle.table_replay.proofs.read_name.Given as goal

abbrev pub invariant-loop-i : goal.invariant-loop-i
invariant-loop-i l = sets l.name l.i (drop l.i (bytes_at l.fn.s l.fn.from l.fn.n)) ≡ sets (replicate 33 0) 0 (bytes_at l.fn.s l.fn.from l.fn.n)
