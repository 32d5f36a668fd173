use Prim.Native.Nat.{◌<◌, ℕ}
use mathlib.Core.Bool.{false}
use mathlib.Core.Path.{◌≡◌}
use Rattle.refusal.specs.Refusal.{is_refused}
use Rattle.relocation.specs.Relocation.{own_at}
use Rattle.loader_entries.proofs.first_refused.Given as goal

abbrev pub invariant-loop-i : goal.invariant-loop-i
invariant-loop-i l = (j : ℕ) → j < l.i → is_refused (own_at l.file l.f l.p l.t j) ≡ false
