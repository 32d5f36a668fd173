use Prim.Native.Nat.{◌-◌}
use Rattle.line_table.proofs.Blocks.{Listing}
use Rattle.line_table.proofs.write_lines.Given as goal

abbrev pub invariant-loop-i : goal.invariant-loop-i
invariant-loop-i l = Listing l.file l.initial.at l.f l.count l.initial.out l.out l.at l.i

abbrev pub decreases-loop-i : goal.decreases-loop-i
decreases-loop-i l = l.count - l.i
