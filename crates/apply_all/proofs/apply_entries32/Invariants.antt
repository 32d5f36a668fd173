use Prim.Native.Nat.{◌-◌}
use mathlib.Core.Path.{◌≡◌}
use Rattle.apply.specs.Shift.{ForPlans}
use Rattle.history.specs.Images.{apply_all, images}
use Rattle.plan.specs.Relocatable.{relocations_from, relocatable_of}
use Rattle.apply_all.proofs.apply_entries32.Given as goal

abbrev pub invariant-loop-k : goal.invariant-loop-k
invariant-loop-k l =
    ForPlans (relocatable_of l.file l.l) l.d l.moving l.from l.to (λ s. apply_all (relocations_from l.file l.l l.k (l.l.tables.nreloc - l.k)) s (images l.text l.data)
    ≡ apply_all (relocations_from l.file l.l 0 l.l.tables.nreloc) s (images l.initial.text l.initial.data))
