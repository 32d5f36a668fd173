use Prim.Native.Nat.{◌-◌}
use mathlib.Core.Path.{◌≡◌}
use Rattle.refusal.specs.Order.{first_of}
use Rattle.object.specs.Check.{section_check}
use Rattle.object.proofs.check_sections.Given as goal

abbrev pub invariant-loop-k : goal.invariant-loop-k
invariant-loop-k l = first_of (section_check l.len l.y) 0 l.y.count ≡ first_of (section_check l.len l.y) l.k (l.y.count - l.k)
