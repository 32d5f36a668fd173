use lib.ListN.{length}
use native.Mathlib.Omega.{arith}
use mathlib.Core.Path.{◌∙◌, sym, refl}
use Rattle.refusal.proofs.Order.{first-start, first-turn, first-stop, first-end, told}
use Rattle.object.specs.Sections.{bytes_before, entries_before}
use Rattle.object.specs.Check.{table_check, tables_check}
use Rattle.object.proofs.Sections.{part-here, sections-entries, table_here, place-fits, first_fits, bytes_next, entries_next, ready-inside}
use Rattle.object.proofs.check_tables.Goals as goal
use Rattle.refusal.proofs.Order.{handed}

pub loop-k-init : goal.loop-k-init
unfolding bytes_before entries_before
loop-k-init c = let a = c.args in record { place = refl; first = refl; rest = first-start (table_check a.file.now a.y) a.y.count }

pub part_of-s-requires : goal.part_of-s-requires
part_of-s-requires c = let a = c.args in (c.loop-k-test.true, (ready-inside a.file.now a.y a.t c.requires.opened).few)

pub check_entries-requires : goal.check_entries-requires
check_entries-requires c = let a = c.args in sections-entries a.file.now a.y a.t c.requires c.loop-k.k c.loop-k-test.true (part-here a.y c.loop-k.k c.part_of-s.ensures refl c.loop-k.invariant.place c.loop-k.invariant.first)

pub returns-in_err-check_entries : goal.returns-in_err-check_entries
unfolding tables_check
returns-in_err-check_entries c = rw (handed c.from_residual.ensures) (let a = c.args in let h = part-here a.y c.loop-k.k c.part_of-s.ensures refl c.loop-k.invariant.place c.loop-k.invariant.first in let v = table_here a.file.now a.y a.t c.requires c.loop-k.k c.loop-k-test.true c.in_err-check_entries.ensures h in v ∙ sym (c.loop-k.invariant.rest ∙ first-stop (table_check a.file.now a.y) a.y.count c.loop-k.k c.loop-k-test.true (told v refl refl)))

pub overflow_add-place : goal.overflow_add-place
overflow_add-place c = let a = c.args in let h = part-here a.y c.loop-k.k c.part_of-s.ensures refl c.loop-k.invariant.place c.loop-k.invariant.first in omega (arith, place-fits a.file.now a.y a.t c.requires c.loop-k.k c.loop-k-test.true c.loop-k.invariant.place h)

pub overflow_add-first : goal.overflow_add-first
overflow_add-first c = let a = c.args in let h = part-here a.y c.loop-k.k c.part_of-s.ensures refl c.loop-k.invariant.place c.loop-k.invariant.first in omega (arith, first_fits a.file.now a.y a.t c.requires c.loop-k.k c.loop-k-test.true c.loop-k.invariant.first h)

pub loop-k-preserved : goal.loop-k-preserved
loop-k-preserved c = let a = c.args in let v = c.loop-k.invariant in let h = part-here a.y c.loop-k.k c.part_of-s.ensures refl c.loop-k.invariant.place c.loop-k.invariant.first in let t = table_here a.file.now a.y a.t c.requires c.loop-k.k c.loop-k-test.true c.in_ok-check_entries.ensures h in record {
  place = bytes_next (length a.file.now) a.y c.loop-k.k v.place h;
  first = entries_next (length a.file.now) a.y c.loop-k.k v.first h;
  rest = v.rest ∙ first-turn (table_check a.file.now a.y) a.y.count c.loop-k.k c.loop-k-test.true (told t refl refl);
}

pub returns : goal.returns
unfolding tables_check
returns c = let a = c.args in sym (c.loop-k.invariant.rest ∙ first-end (table_check a.file.now a.y) a.y.count c.loop-k.k c.loop-k-test.false)
