use mathlib.Core.Path.{◌≡◌}
use Rattle.parts.specs.Sections.{tally}
use Rattle.parts.proofs.tally_kind.Given as goal

abbrev pub invariant-loop-i : goal.invariant-loop-i
invariant-loop-i l = l.t ≡ tally l.fn.sections l.flag l.i
