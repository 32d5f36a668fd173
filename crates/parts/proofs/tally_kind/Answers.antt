use Rattle.std.proofs.Common.{get_or-take, length-take, ◌<◌}
use lib.Dec.{eqb}
use mathlib.Core.Path.{◌∙◌, ap, refl}
use native.Mathlib.Omega.{arith}
use Rattle.parts.proofs.Tallied.{tally-more, tally-few}
use Rattle.parts.specs.Sections.{tally}
use Rattle.parts.proofs.tally_kind.Goals as goal

pub loop-i-init : goal.loop-i-init
unfolding tally
loop-i-init c = refl

pub tally_step-t-requires : goal.tally_step-t-requires
tally_step-t-requires c = rw c.loop-i.invariant ((tally-few c.args.sections c.args.flag c.loop-i.i).0, omega (arith, length-take c.args.count c.args.sections))

pub loop-i-preserved : goal.loop-i-preserved
loop-i-preserved c =
    let a = c.args in
    let h : c.loop-i.i < a.count = omega (arith, length-take a.count a.sections) in
    c.tally_step-t.ensures ∙ rw c.loop-i.invariant (tally-more a.sections a.flag c.loop-i.i (ap (λ k. eqb k a.flag) (rw get_or-take at c.flags.ensures)))
