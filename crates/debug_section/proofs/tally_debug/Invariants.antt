use mathlib.Core.Path.{◌≡◌}
use Rattle.debug_section.specs.Debug.{tally_of, debug_ranges}
use Rattle.debug_section.proofs.tally_debug.Given as goal

abbrev pub invariant-loop-s : goal.invariant-loop-s
invariant-loop-s l = l.t ≡ tally_of (debug_ranges l.fn.sections l.s-index)
