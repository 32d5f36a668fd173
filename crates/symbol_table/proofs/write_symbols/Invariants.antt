use Prim.Native.Nat.{◌-◌}
use Rattle.symbol_table.proofs.Visits.{Listing}
use Rattle.symbol_table.proofs.write_symbols.Given as goal

abbrev pub invariant-loop-i : goal.invariant-loop-i
invariant-loop-i l = Listing l.file l.t l.initial.out l.out l.visited l.i

abbrev pub decreases-loop-i : goal.decreases-loop-i
decreases-loop-i l = l.t.count - l.i
