use mathlib.Core.Path.{◌≡◌}
use Rattle.debug_section.specs.Debug.{debug_ranges}
use Rattle.shared_range.specs.Shared.{shares_one}
use Rattle.shared_symbols.proofs.shares_debug.Given as goal

abbrev pub invariant-loop-s : goal.invariant-loop-s
invariant-loop-s l = l.shared ≡ shares_one l.a (debug_ranges l.fn.sections l.s-index)
