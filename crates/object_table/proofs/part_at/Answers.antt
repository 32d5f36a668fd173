use lib.ListN.{length}
use mathlib.Core.Path.{refl}
use native.Mathlib.Omega.{arith}
use Rattle.object.specs.Sections.{bytes_before, entries_before}
use Rattle.object.proofs.Sections.{part-here, place-fits, first_fits, bytes_next, entries_next, ready-inside}
use Rattle.object_table.proofs.part_at.Goals as goal

pub loop-j-init : goal.loop-j-init
unfolding bytes_before entries_before
loop-j-init c = (refl, refl)

pub part_of-s-requires : goal.part_of-s-requires
part_of-s-requires c = let a = c.args in (omega (arith, c.loop-j-test.true, c.requires.1), (ready-inside a.file.now a.y a.t c.requires.0.opened).few)

pub overflow_add-place : goal.overflow_add-place
overflow_add-place c = let a = c.args in let v = c.loop-j.invariant in let l = c.loop-j.j in omega (arith, place-fits a.file.now a.y a.t c.requires.0 l (omega (arith, c.loop-j-test.true, c.requires.1)) v.0 (part-here a.y l c.part_of-s.ensures refl v.0 v.1))

pub overflow_add-first : goal.overflow_add-first
overflow_add-first c = let a = c.args in let v = c.loop-j.invariant in let l = c.loop-j.j in omega (arith, first_fits a.file.now a.y a.t c.requires.0 l (omega (arith, c.loop-j-test.true, c.requires.1)) v.1 (part-here a.y l c.part_of-s.ensures refl v.0 v.1))

pub loop-j-preserved : goal.loop-j-preserved
loop-j-preserved c = let a = c.args in let v = c.loop-j.invariant in let l = c.loop-j.j in let h = part-here a.y l c.part_of-s.ensures refl v.0 v.1 in (bytes_next (length a.file.now) a.y l v.0 h, entries_next (length a.file.now) a.y l v.1 h)

pub part_of-requires : goal.part_of-requires
part_of-requires c = let a = c.args in (c.requires.1, (ready-inside a.file.now a.y a.t c.requires.0.opened).few)
