use Rattle.std.proofs.Common.{rules, arith, refl, get_or-take, length-take, ◌≡◌, ◌<◌}
use Rattle.debug_section.specs.Debug.{debug_ranges}
use Rattle.shared_range.specs.Shared.{shares_one}
use Rattle.shared_symbols.proofs.Sections.{shares-more}
use Rattle.shared_symbols.proofs.shares_debug.Goals as goal

pub loop-s-init : goal.loop-s-init
unfolding debug_ranges shares_one
loop-s-init c = refl

pub loop-s-preserved : goal.loop-s-preserved
loop-s-preserved c =
    let a = c.args in
    let below : c.loop-s.s-index < a.count = omega (arith, length-take a.count a.sections) in
    shares-more a.a a.sections c.loop-s.s-index c.loop-s.invariant (simp get_or-take at c.shares_section-shared.ensures)

pub returns : goal.returns
returns c = let e : c.loop-s.s-index ≡ c.args.count = search rules in rw e at c.loop-s.invariant
