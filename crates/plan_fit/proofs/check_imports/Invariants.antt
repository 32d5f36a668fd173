use Prim.Native.Nat.{◌-◌}
use mathlib.Core.Path.{◌≡◌}
use Rattle.history.specs.Plan.{import_check}
use Rattle.plan.specs.Relocatable.{relocatable_of}
use Rattle.refusal.specs.Order.{first_of}
use Rattle.plan_fit.proofs.check_imports.Given as goal

abbrev pub invariant-loop-k : goal.invariant-loop-k
invariant-loop-k l = first_of (import_check (relocatable_of l.file l.l) l.list) 0 l.l.tables.nsyms ≡ first_of (import_check (relocatable_of l.file l.l) l.list) l.k (l.l.tables.nsyms - l.k)
