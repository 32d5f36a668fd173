use Prim.Native.Nat.{◌+◌}
use lib.ListN.{drop}
use mathlib.Core.Path.{◌≡◌}
use Rattle.word.specs.Zero.{zeros_in}
use Rattle.word.proofs.zeros_in.Given as goal

abbrev pub invariant-loop-b : goal.invariant-loop-b
invariant-loop-b l = l.n + zeros_in (drop l.b-index l.block) ≡ zeros_in l.block
