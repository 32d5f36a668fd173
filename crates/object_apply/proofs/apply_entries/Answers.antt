use Rattle.std.proofs.Common.{length, sym, refl, ◌∙◌, arith, rules}
use Rattle.object.specs.Sections.{bytes_before, entries_before}
use Rattle.object.proofs.Sections.{part-here, place-fits, first_fits, bytes_next, entries_next}
use Rattle.object_plan.specs.Shifts.{address_shifts}
use Rattle.object_plan.proofs.Ready.{sections-few, part-good}
use Rattle.object_apply.proofs.Entries.{tables-begin, tables-next, tables-done, section-inside}
use Rattle.object_apply.proofs.apply_entries.Goals as goal

pub loop-k-init : goal.loop-k-init
unfolding bytes_before entries_before
loop-k-init c = let a = c.args in record { place = refl; first = refl; rest = tables-begin a.file.now a.y a.t c.requires.object_ready (address_shifts a.to.now a.from.now) a.buffer.now }

pub part_of-s-requires : goal.part_of-s-requires
part_of-s-requires c = let a = c.args in ((search rules), sections-few a.file.now a.y a.t c.requires.object_ready)

pub apply_table-requires-clause-part_ready : goal.apply_table-requires-clause-part_ready
apply_table-requires-clause-part_ready c = let a = c.args in let h = part-here a.y c.loop-k.k c.part_of-s.ensures refl c.loop-k.invariant.place c.loop-k.invariant.first in part-good a.file.now a.y a.t c.requires.object_ready c.loop-k.k (search rules) h

pub apply_table-requires-clause-to_len : goal.apply_table-requires-clause-to_len
apply_table-requires-clause-to_len c = let a = c.args in let p = c.requires in let h = part-here a.y c.loop-k.k c.part_of-s.ensures refl c.loop-k.invariant.place c.loop-k.invariant.first in (p.to_len.0, p.to_len.1, section-inside a.file.now a.y a.t p.object_ready c.loop-k.k (search rules) h (c.loop-k.auto.buffer ∙ p.to_len.2))

pub overflow_add-place : goal.overflow_add-place
overflow_add-place c = let a = c.args in let h = part-here a.y c.loop-k.k c.part_of-s.ensures refl c.loop-k.invariant.place c.loop-k.invariant.first in omega (arith, place-fits a.file.now a.y a.t c.requires.object_ready.sections c.loop-k.k (search rules) c.loop-k.invariant.place h)

pub overflow_add-first : goal.overflow_add-first
overflow_add-first c = let a = c.args in let h = part-here a.y c.loop-k.k c.part_of-s.ensures refl c.loop-k.invariant.place c.loop-k.invariant.first in omega (arith, first_fits a.file.now a.y a.t c.requires.object_ready.sections c.loop-k.k (search rules) c.loop-k.invariant.first h)

pub loop-k-preserved : goal.loop-k-preserved
loop-k-preserved c = let a = c.args in let v = c.loop-k.invariant in let h = part-here a.y c.loop-k.k c.part_of-s.ensures refl c.loop-k.invariant.place c.loop-k.invariant.first in record {
  place = bytes_next (length a.file.now) a.y c.loop-k.k v.place h;
  first = entries_next (length a.file.now) a.y c.loop-k.k v.first h;
  rest = tables-next a.file.now a.y a.t c.requires.object_ready (address_shifts a.to.now a.from.now) c.loop-k.k c.loop-k.buffer (search rules) h c.apply_table.ensures ∙ v.rest;
}

pub returns : goal.returns
returns c = let a = c.args in sym (tables-done a.file.now a.y a.t c.requires.object_ready (address_shifts a.to.now a.from.now) c.loop-k.k c.loop-k.buffer c.loop-k-test.false) ∙ c.loop-k.invariant.rest
