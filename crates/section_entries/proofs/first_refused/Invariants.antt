use Prim.Native.Nat.{◌<◌, ℕ}
use mathlib.Core.Bool.{false}
use mathlib.Core.Path.{◌≡◌}
use Rattle.refusal.specs.Refusal.{is_refused}
use Rattle.object_entry.specs.Entry.{own_at}
use Rattle.section_entries.proofs.first_refused.Given as goal

abbrev pub invariant-loop-i : goal.invariant-loop-i
invariant-loop-i l = (j : ℕ) → j < l.i → is_refused (own_at l.file l.t l.s j) ≡ false
