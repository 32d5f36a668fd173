use lib.ListN.{length}
use mathlib.Core.Path.{◌≡◌}
use Rattle.object.specs.Sections.{bytes_before, entries_before}
use Rattle.object.proofs.measure.Given as goal

abbrev pub invariant-loop-k : goal.invariant-loop-k
invariant-loop-k l = record { place : l.place ≡ bytes_before (length l.file) l.y l.k; first : l.first ≡ entries_before (length l.file) l.y l.k }
