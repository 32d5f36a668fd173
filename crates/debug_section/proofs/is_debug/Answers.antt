use borrow.Author.Tests.{eq-eqb, ne_eqb}
use mathlib.Core.Path.{refl}
use Rattle.debug_section.specs.Debug.{is_debug}
use Rattle.debug_section.proofs.is_debug.Goals as goal

pub returns-then-flags-eq-DEBUG : goal.returns-then-flags-eq-DEBUG
unfolding is_debug
returns-then-flags-eq-DEBUG c = rw (← c.flags.ensures, eq-eqb _ _ c.if-flags-eq-DEBUG.true) refl

pub returns : goal.returns
unfolding is_debug
returns c = rw (← c.flags.ensures, ne_eqb _ _ c.if-flags-eq-DEBUG.false) refl
