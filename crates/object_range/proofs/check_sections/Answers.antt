use lib.ListN.{length}
use native.Mathlib.Omega.{arith}
use mathlib.Core.Path.{◌∙◌, sym, refl, ap}
use Rattle.refusal.specs.Refusal.{is_refused}
use Rattle.refusal.proofs.Order.{first-start, first-turn, first-stop, first-end}
use Rattle.object.specs.Sections.{bytes_before, entries_before}
use Rattle.object.proofs.Sections.{part-here, place-fits, first_fits, bytes_next, entries_next}
use Rattle.object_plan.specs.Shifts.{address_shifts}
use Rattle.object_plan.proofs.Ready.{sections-few, part-good}
use Rattle.object_range.specs.Sections.{section_range, sections_range}
use Rattle.object_range.proofs.Order.{section-refused, section-accepted, origin-holds}
use Rattle.object_range.proofs.check_sections.Goals as goal

pub loop-k-init : goal.loop-k-init
unfolding bytes_before entries_before
loop-k-init c = let a = c.args in (refl, refl, first-start (section_range a.file.now a.y (address_shifts a.to.now a.from.now) a.source a.bytes.now) a.y.count)

pub part_of-s-requires : goal.part_of-s-requires
part_of-s-requires c = let a = c.args in (c.loop-k-test.true, sections-few a.file.now a.y a.t c.requires.0)

pub first_out-x-requires-clause-part_ready : goal.first_out-x-requires-clause-part_ready
first_out-x-requires-clause-part_ready c = let a = c.args in let h = part-here a.y c.loop-k.k c.part_of-s.ensures refl c.loop-k.invariant.0 c.loop-k.invariant.1 in (part-good a.file.now a.y a.t c.requires.0 c.loop-k.k c.loop-k-test.true h, origin-holds a.file.now a.y a.t c.requires.0 (address_shifts a.to.now a.from.now) a.source a.bytes.now c.loop-k.k h c.origin_of-origin.ensures c.requires.1 c.loop-k-test.true)

pub name_of-requires : goal.name_of-requires
name_of-requires c = let a = c.args in let h = part-here a.y c.loop-k.k c.part_of-s.ensures refl c.loop-k.invariant.0 c.loop-k.invariant.1 in omega (arith, (part-good a.file.now a.y a.t c.requires.0 c.loop-k.k c.loop-k-test.true h).entries.ready.numbered, c.if-x-s.true)

pub returns-then-x-s : goal.returns-then-x-s
unfolding sections_range
returns-then-x-s c = let a = c.args in let h = part-here a.y c.loop-k.k c.part_of-s.ensures refl c.loop-k.invariant.0 c.loop-k.invariant.1 in let v = section-refused a.file.now a.y a.t c.requires.0 (address_shifts a.to.now a.from.now) a.source a.bytes.now c.loop-k.k h c.origin_of-origin.ensures c.first_out-x.ensures c.if-x-s.true in rw c.name_of.ensures (v ∙ sym (c.loop-k.invariant.2 ∙ first-stop (section_range a.file.now a.y (address_shifts a.to.now a.from.now) a.source a.bytes.now) a.y.count c.loop-k.k c.loop-k-test.true (ap is_refused (sym v))))

pub overflow_add-place : goal.overflow_add-place
overflow_add-place c = let a = c.args in let h = part-here a.y c.loop-k.k c.part_of-s.ensures refl c.loop-k.invariant.0 c.loop-k.invariant.1 in omega (arith, place-fits a.file.now a.y a.t c.requires.0.sections c.loop-k.k c.loop-k-test.true c.loop-k.invariant.0 h)

pub overflow_add-first : goal.overflow_add-first
overflow_add-first c = let a = c.args in let h = part-here a.y c.loop-k.k c.part_of-s.ensures refl c.loop-k.invariant.0 c.loop-k.invariant.1 in omega (arith, first_fits a.file.now a.y a.t c.requires.0.sections c.loop-k.k c.loop-k-test.true c.loop-k.invariant.1 h)

pub loop-k-preserved : goal.loop-k-preserved
loop-k-preserved c = let a = c.args in let h = part-here a.y c.loop-k.k c.part_of-s.ensures refl c.loop-k.invariant.0 c.loop-k.invariant.1 in let v = section-accepted a.file.now a.y a.t c.requires.0 (address_shifts a.to.now a.from.now) a.source a.bytes.now c.loop-k.k h c.origin_of-origin.ensures c.first_out-x.ensures c.if-x-s.false in (bytes_next (length a.file.now) a.y c.loop-k.k c.loop-k.invariant.0 h, entries_next (length a.file.now) a.y c.loop-k.k c.loop-k.invariant.1 h, c.loop-k.invariant.2 ∙ first-turn (section_range a.file.now a.y (address_shifts a.to.now a.from.now) a.source a.bytes.now) a.y.count c.loop-k.k c.loop-k-test.true (ap is_refused (sym v)))

pub returns : goal.returns
unfolding sections_range
returns c = let a = c.args in sym (c.loop-k.invariant.2 ∙ first-end (section_range a.file.now a.y (address_shifts a.to.now a.from.now) a.source a.bytes.now) a.y.count c.loop-k.k c.loop-k-test.false)
