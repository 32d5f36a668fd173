use lib.ListN.{length}
use native.Mathlib.Omega.{arith}
use mathlib.Core.Path.{refl}
use Rattle.object.specs.Sections.{bytes_before, entries_before}
use Rattle.object.proofs.Sections.{part-here, place-fits, first_fits, bytes_next, entries_next, ready-inside, measured}
use Rattle.object.proofs.measure.Goals as goal

pub loop-k-init : goal.loop-k-init
unfolding bytes_before entries_before
loop-k-init c = record { place = refl; first = refl }

pub part_of-s-requires : goal.part_of-s-requires
part_of-s-requires c = let a = c.args in (c.loop-k-test.true, (ready-inside a.file.now a.y a.t c.requires.opened).few)

pub overflow_add-place : goal.overflow_add-place
overflow_add-place c = let a = c.args in let h = part-here a.y c.loop-k.k c.part_of-s.ensures refl c.loop-k.invariant.place c.loop-k.invariant.first in omega (arith, place-fits a.file.now a.y a.t c.requires c.loop-k.k c.loop-k-test.true c.loop-k.invariant.place h)

pub overflow_add-first : goal.overflow_add-first
overflow_add-first c = let a = c.args in let h = part-here a.y c.loop-k.k c.part_of-s.ensures refl c.loop-k.invariant.place c.loop-k.invariant.first in omega (arith, first_fits a.file.now a.y a.t c.requires c.loop-k.k c.loop-k-test.true c.loop-k.invariant.first h)

pub loop-k-preserved : goal.loop-k-preserved
loop-k-preserved c = let a = c.args in let h = part-here a.y c.loop-k.k c.part_of-s.ensures refl c.loop-k.invariant.place c.loop-k.invariant.first in record { place = bytes_next (length a.file.now) a.y c.loop-k.k c.loop-k.invariant.place h; first = entries_next (length a.file.now) a.y c.loop-k.k c.loop-k.invariant.first h }

pub returns : goal.returns
returns c = let a = c.args in measured (length a.file.now) a.y c.loop-k.k c.loop-k.auto.k-end c.loop-k-test.false c.loop-k.invariant.place c.loop-k.invariant.first
