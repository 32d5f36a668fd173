use mathlib.Core.Path.{refl}
use Rattle.word.proofs.Test.{found}
use Rattle.debug_section.proofs.tally_step.Goals as goal

pub returns-then-is_debug : goal.returns-then-is_debug
returns-then-is_debug c = rw (found c.is_debug.ensures c.if-is_debug.true) refl

pub returns : goal.returns
returns c = rw (found c.is_debug.ensures c.if-is_debug.false) refl
