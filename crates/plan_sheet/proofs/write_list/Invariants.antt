use Prim.Native.Nat.{◌*◌, ◌+◌}
use lib.ListN.{drop}
use lib.Seq.{sets}
use mathlib.Core.Path.{◌≡◌}
use Rattle.sheet.specs.Sheet.{address_bytes}
use Rattle.plan_sheet.proofs.write_list.Given as goal

abbrev pub invariant-loop-i : goal.invariant-loop-i
invariant-loop-i l = sets l.sheet (l.start + l.i * 8) (address_bytes (drop l.i l.list)) ≡ sets l.initial.sheet l.start (address_bytes l.list)
