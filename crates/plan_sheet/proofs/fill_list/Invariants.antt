use Prim.Native.Nat.{◌*◌, ◌+◌, ◌-◌}
use lib.ListN.{length}
use lib.Seq.{sets}
use mathlib.Core.Path.{◌≡◌}
use Rattle.sheet.specs.Sheet.{numbers_from}
use Rattle.plan_sheet.proofs.fill_list.Given as goal

abbrev pub invariant-loop-i : goal.invariant-loop-i
invariant-loop-i l =
    sets l.list l.i (numbers_from l.sheet (l.start + l.i * 8) (length l.initial.list - l.i))
    ≡ sets l.initial.list 0 (numbers_from l.sheet l.start (length l.initial.list))
