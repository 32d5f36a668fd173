use Prim.Native.Nat.{◌-◌}
use mathlib.Core.Path.{◌≡◌}
use Rattle.refusal.specs.Order.{first_of}
use Rattle.object_history.specs.Object.{section_check, fit_check}
use Rattle.object_shifts.specs.Places.{planned_by}
use Rattle.object_shifts.proofs.check_fit.Given as goal

abbrev pub invariant-loop-k : goal.invariant-loop-k
invariant-loop-k l = fit_check (planned_by l.fn.y) l.p ≡ first_of (section_check (planned_by l.fn.y) l.p) l.k (l.fn.y.count - l.k)
