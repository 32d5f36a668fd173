use lib.ListN.{length}
use mathlib.Core.Path.{refl, ◌∙◌, ap}
use native.Mathlib.Omega.{arith}
use Rattle.rows.proofs.Laws.{writing_start, writing-next, writing-end}
use Rattle.object.specs.Sections.{bytes_before, entries_before}
use Rattle.object.proofs.Sections.{part-here, place-fits, first_fits, bytes_next, entries_next, ready-inside}
use Rattle.object_table.specs.Table.{part_row, section_row}
use Rattle.object_table.proofs.Parts.{section-even}
use Rattle.object_table.proofs.write_sections.Goals as goal

pub loop-k-init : goal.loop-k-init
unfolding bytes_before entries_before
loop-k-init c = let a = c.args in (writing_start (section_row (length a.file.now) a.y) 5 (section-even (length a.file.now) a.y) a.out.now a.y.count, refl, refl)

pub part_of-s-requires : goal.part_of-s-requires
part_of-s-requires c = let a = c.args in (c.loop-k-test.true, (ready-inside a.file.now a.y a.t c.requires.0.opened).few)

pub overflow_add-place : goal.overflow_add-place
overflow_add-place c = let a = c.args in let v = c.loop-k.invariant in let l = c.loop-k.k in omega (arith, place-fits a.file.now a.y a.t c.requires.0 l c.loop-k-test.true v.1 (part-here a.y l c.part_of-s.ensures refl v.1 v.2))

pub overflow_add-first : goal.overflow_add-first
overflow_add-first c = let a = c.args in let v = c.loop-k.invariant in let l = c.loop-k.k in omega (arith, first_fits a.file.now a.y a.t c.requires.0 l c.loop-k-test.true v.2 (part-here a.y l c.part_of-s.ensures refl v.1 v.2))

pub loop-k-preserved : goal.loop-k-preserved
loop-k-preserved c = let a = c.args in let v = c.loop-k.invariant in let l = c.loop-k.k in let h = part-here a.y l c.part_of-s.ensures refl v.1 v.2 in (writing-next (section_row (length a.file.now) a.y) 5 (section-even (length a.file.now) a.y) c.loop-k.out a.y.count l c.loop-k-test.true (c.part_row-row.ensures ∙ ap part_row h) c.write_row.ensures v.0, bytes_next (length a.file.now) a.y l v.1 h, entries_next (length a.file.now) a.y l v.2 h)

pub returns : goal.returns
returns c = let a = c.args in writing-end (section_row (length a.file.now) a.y) 5 (section-even (length a.file.now) a.y) a.out.now a.y.count c.loop-k.k c.loop-k-test.false c.requires.1 c.loop-k.invariant.0
