use mathlib.Core.Path.{◌≡◌}
use lib.ListN.{take, drop}
use Rattle.shared_range.specs.Shared.{shares_two}
use Rattle.shared_range.proofs.share_two.Given as goal

abbrev pub invariant-loop-i : goal.invariant-loop-i
invariant-loop-i l = shares_two (drop l.i (take l.n l.rs)) ≡ shares_two (take l.n l.rs)
