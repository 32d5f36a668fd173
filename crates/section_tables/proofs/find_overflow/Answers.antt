use Rattle.std.proofs.Common.{◌<◌, length-take, get_or-take}
use mathlib.Core.Path.{refl}
use native.Mathlib.Omega.{arith}
use Rattle.section_tables.specs.Tables.{overflow_in}
use Rattle.section_tables.proofs.Tables.{overflow-few, overflow-next}
use Rattle.section_tables.proofs.find_overflow.Goals as goal

pub loop-s-init : goal.loop-s-init
unfolding overflow_in
loop-s-init c = refl

pub overflow_step-o-requires : goal.overflow_step-o-requires
overflow_step-o-requires c = let a = c.args in rw c.loop-s.invariant (omega (arith, length-take a.count a.sections, overflow-few a.k a.sections a.n c.loop-s.s-index))

pub loop-s-preserved : goal.loop-s-preserved
loop-s-preserved c =
    let a = c.args in
    let l = c.loop-s in
    let h : l.s-index < a.count = omega (arith, length-take a.count a.sections) in
    overflow-next a.k a.sections a.n l.s-index l.invariant (rw get_or-take at c.overflow_step-o.ensures)
