use Prim.Native.Nat.{◌-◌}
use mathlib.Core.Path.{◌≡◌}
use Rattle.refusal.specs.Order.{first_of}
use Rattle.parts.specs.Sections.{thread_at}
use Rattle.parts.proofs.check_thread.Given as goal

abbrev pub invariant-loop-i : goal.invariant-loop-i
invariant-loop-i l = first_of (thread_at l.fn.sections) 0 l.count ≡ first_of (thread_at l.fn.sections) l.i (l.count - l.i)
