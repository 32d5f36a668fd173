use lib.ListN.{drop}
use lib.Seq.{paste}
use mathlib.Core.Path.{◌≡◌}
use Rattle.raw_image.proofs.copy_bytes.Given as goal

abbrev pub invariant-loop-i : goal.invariant-loop-i
invariant-loop-i l = l.dst ≡ paste l.initial.dst 0 (drop l.at l.file) l.i
