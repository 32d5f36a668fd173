use Prim.Native.Nat.{ℕ, ◌<◌}
use Rattle.relocation.specs.Relocation.{place_at}
use Rattle.field_overlap.specs.Aligned.{Aligned}
use Rattle.field_overlap.proofs.are_aligned.Given as goal

abbrev pub invariant-loop-i : goal.invariant-loop-i
invariant-loop-i l = (j : ℕ) → j < l.i → Aligned l.wide (place_at l.file l.f l.p l.t j)
