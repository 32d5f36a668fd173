use lib.Dec.{ltb}
use lib.ListN.{drop}
use mathlib.Core.Bool.{◌||◌}
use mathlib.Core.Path.{◌≡◌}
use Rattle.word.specs.Zero.{zeros_in}
use Rattle.word.proofs.has_zero.Given as goal

abbrev pub invariant-loop-b : goal.invariant-loop-b
invariant-loop-b l = ltb 0 (zeros_in l.block) ≡ (l.found || ltb 0 (zeros_in (drop l.b-index l.block)))
