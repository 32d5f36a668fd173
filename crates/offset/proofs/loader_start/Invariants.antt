use mathlib.Core.Path.{◌≡◌}
use Rattle.offset.specs.Offset.{loader_in}
use Rattle.offset.proofs.loader_start.Given as goal

abbrev pub invariant-loop-i : goal.invariant-loop-i
invariant-loop-i l = l.start ≡ loader_in l.file l.h l.i
