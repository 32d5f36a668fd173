use mathlib.Core.Path.{◌≡◌}
use Rattle.section_tables.specs.Tables.{overflow_in}
use Rattle.section_tables.proofs.find_overflow.Given as goal

abbrev pub invariant-loop-s : goal.invariant-loop-s
invariant-loop-s l = l.o ≡ overflow_in l.k l.fn.sections l.n l.s-index
