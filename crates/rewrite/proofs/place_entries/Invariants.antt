use Prim.Native.Nat.{◌-◌}
use mathlib.Core.Bool.{false}
use mathlib.Core.Path.{◌≡◌}
use Rattle.apply.specs.Shift.{ForPlans}
use Rattle.plan.specs.Relocatable.{relocations_from, relocatable_of}
use Rattle.rewrite.specs.InPlace.{place_all}
use Rattle.rewrite.proofs.place_entries.Given as goal

abbrev pub invariant-loop-i : goal.invariant-loop-i
invariant-loop-i l =
    ForPlans (relocatable_of l.file l.l) l.d false l.imports l.imports (λ s. place_all l.l.layout.parts (relocations_from l.file l.l l.i (l.l.tables.nreloc - l.i)) s l.out
    ≡ place_all l.l.layout.parts (relocations_from l.file l.l 0 l.l.tables.nreloc) s l.initial.out)
