use Rattle.object_history.specs.Range.{is_branch}
use Rattle.section_relocation.specs.Entry.{field_in}
use mathlib.Core.Bool.{false}
use Prim.Native.Nat.{ℕ, ◌<◌}
use mathlib.Core.Path.{◌≡◌}
use Rattle.branch_range.proofs.first_branch.Given as goal

abbrev pub invariant-loop-i : goal.invariant-loop-i
invariant-loop-i l = (j : ℕ) → j < l.i → is_branch (field_in l.file l.f l.s j).kind ≡ false
