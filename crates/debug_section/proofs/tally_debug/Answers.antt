use Rattle.std.proofs.Common.{◌<◌, length-take, get_or-take}
use mathlib.Core.Path.{refl, ◌∙◌}
use native.Mathlib.Omega.{arith}
use Rattle.debug_section.specs.Debug.{debug_ranges}
use Rattle.debug_section.proofs.Sections.{tally-more, ranges-few}
use Rattle.debug_section.proofs.tally_debug.Goals as goal

pub loop-s-init : goal.loop-s-init
unfolding debug_ranges
loop-s-init c = refl

pub tally_step-t-requires : goal.tally_step-t-requires
tally_step-t-requires c = let a = c.args in rw c.loop-s.invariant (omega (arith, length-take a.count a.sections, ranges-few a.sections c.loop-s.s-index))

pub loop-s-preserved : goal.loop-s-preserved
loop-s-preserved c =
    let a = c.args in
    let l = c.loop-s in
    let h : l.s-index < a.count = omega (arith, length-take a.count a.sections) in
    rw get_or-take at c.tally_step-t.ensures ∙ rw l.invariant (tally-more a.sections l.s-index refl)
