use lib.ListN.{length}
use Prim.Native.Nat.{◌≤◌}
use mathlib.Core.Path.{◌≡◌}
use Rattle.import_id.specs.Import.{string_start}
use Rattle.import_id.proofs.string_start.Given as goal

abbrev pub invariant-loop-k : goal.invariant-loop-k
invariant-loop-k l = record { start : l.at ≡ string_start l.s l._k; inside : l.at ≤ length l.s }
