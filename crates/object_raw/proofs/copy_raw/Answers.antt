use mathlib.Core.Path.{refl, ◌∙◌}
use lib.ListN.{length}
use native.Mathlib.Omega.{arith}
use Rattle.object.specs.Sections.{bytes_before, entries_before}
use Rattle.object.proofs.Sections.{part-here, place-fits, first_fits, bytes_next, entries_next}
use Rattle.object_plan.proofs.Ready.{sections-few}
use Rattle.object_raw.proofs.Bytes.{part-there, raw-start, raw-turn, raw-end}
use Rattle.object_raw.proofs.copy_raw.Goals as goal

pub loop-k-init : goal.loop-k-init
unfolding bytes_before entries_before
loop-k-init c = let a = c.args in record { place = refl; first = refl; rest = raw-start a.file.now a.y a.t c.requires.object_ready a.out.now }

pub part_of-s-requires : goal.part_of-s-requires
part_of-s-requires c = let a = c.args in (c.loop-k-test.true, sections-few a.file.now a.y a.t c.requires.object_ready)

pub copy_part-requires : goal.copy_part-requires
copy_part-requires c = let a = c.args in let h = part-here a.y c.loop-k.k c.part_of-s.ensures refl c.loop-k.invariant.place c.loop-k.invariant.first in let p = part-there a.file.now a.y a.t c.requires.object_ready c.loop-k.k c.loop-k-test.true c.loop-k.invariant.place h in (p.0, omega (arith, p.1, c.loop-k.auto.out, c.requires.out_len))

pub overflow_add-place : goal.overflow_add-place
overflow_add-place c = let a = c.args in let h = part-here a.y c.loop-k.k c.part_of-s.ensures refl c.loop-k.invariant.place c.loop-k.invariant.first in omega (arith, place-fits a.file.now a.y a.t c.requires.object_ready.sections c.loop-k.k c.loop-k-test.true c.loop-k.invariant.place h)

pub overflow_add-first : goal.overflow_add-first
overflow_add-first c = let a = c.args in let h = part-here a.y c.loop-k.k c.part_of-s.ensures refl c.loop-k.invariant.place c.loop-k.invariant.first in omega (arith, first_fits a.file.now a.y a.t c.requires.object_ready.sections c.loop-k.k c.loop-k-test.true c.loop-k.invariant.first h)

pub loop-k-preserved : goal.loop-k-preserved
loop-k-preserved c = let a = c.args in let v = c.loop-k.invariant in let h = part-here a.y c.loop-k.k c.part_of-s.ensures refl c.loop-k.invariant.place c.loop-k.invariant.first in record {
  place = bytes_next (length a.file.now) a.y c.loop-k.k v.place h;
  first = entries_next (length a.file.now) a.y c.loop-k.k v.first h;
  rest = raw-turn a.file.now a.y a.t c.requires.object_ready c.loop-k.k c.loop-k-test.true v.place h c.loop-k.out (c.loop-k.auto.out ∙ c.requires.out_len) c.copy_part.ensures v.rest;
}

pub returns : goal.returns
returns c = let a = c.args in let v = c.loop-k.invariant in raw-end a.file.now a.y a.t c.requires.object_ready c.loop-k.k c.loop-k.place c.loop-k-test.false c.loop-k.auto.k-end v.place (c.loop-k.auto.out ∙ c.requires.out_len) v.rest
