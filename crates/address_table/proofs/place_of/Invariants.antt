use mathlib.Core.Path.{◌≡◌}
use Prim.Native.Nat.{◌-◌}
use Rattle.address_table.specs.Table.{place_of}
use Rattle.address_table.proofs.place_of.Given as goal

abbrev pub invariant-loop-i : goal.invariant-loop-i
invariant-loop-i l = place_of l.key l.table 0 l.n ≡ place_of l.key l.table l.i (l.n - l.i)
