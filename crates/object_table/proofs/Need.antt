-- How much memory a listing needs. Assumes nothing.
use Prim.Native.Nat.{ℕ, ◌*◌}
use mathlib.Core.Path.{◌≡◌, refl}
use mathlib.Core.List.{List}
use borrow.Author.Tests.{eq-eqb}
use lib.ListN.{length}
use Rattle.format.specs.declared.Format.{Format}
use Rattle.refusal.specs.Order.{◌or_else◌, by_verdict}
use Rattle.header.specs.declared.Summary.{Summary}
use Rattle.header.specs.Open.{open_of}
use Rattle.section_relocation.specs.declared.ObjectSection.{ObjectSection}
use Rattle.object.specs.Check.{object_check, file_of, object_at, report_of_object, object_report}
use Rattle.rows.specs.Rows.{room_check}
use Rattle.rows.proofs.Laws.{length-rows}
use Rattle.object_table.specs.Table.{section_row, section_rows, section_rows_check, entry_row, entry_rows}
use Rattle.object_table.proofs.Parts.{section-even, entry-even}
use Rattle.std.specs.Prelude.{Err, Ok}
use Rattle.refusal.specs.Verdict.{Verdict}

-- 5 numbers for each section that the object's report counts: with them the object's refusals are the only ones
pub sections-need : (file : List ℕ) → section_rows_check file (5 * (object_report file).sections) ≡ object_check file
unfolding section_rows_check object_at file_of room_check
sections-need file = by (object_check file)
  where
    by : (v : Verdict) → (v or_else room_check (5 * (report_of_object file (by_verdict v (Ok (file_of (length file) (open_of file).summary)) Err)).sections) (5 * (open_of file).summary.count)) ≡ v
    by (Ok tt) = rw (eq-eqb (5 * (open_of file).summary.count) (5 * (open_of file).summary.count) refl) refl
    by (Err x) = refl

-- the rows take exactly that much; those of a section's entries 6 numbers for each entry
pub section-rows-length : (len : ℕ) (y : Summary) → length (section_rows len y) ≡ 5 * y.count
section-rows-length len y = length-rows (section_row len y) 5 (section-even len y) y.count 0

pub entry-rows-length : (file : List ℕ) (f : Format) (s : ObjectSection) → length (entry_rows file f s) ≡ 6 * s.count
entry-rows-length file f s = length-rows (entry_row file f s) 6 (entry-even file f s) s.count 0
