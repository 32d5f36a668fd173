-- Which files are taken as object files: opening, MODULE 3 and BOUNDS by section, LREL and OVERLAP by entry.
use Rattle.std.specs.Prelude.{ℕ, ◌≡◌, Bool, not, cond, ◌&&◌, List, eqb, length, Err, Ok, Result}
use Rattle.refusal.specs.declared.ModuleItem.TheVariants.{NoRawData}
use Rattle.refusal.specs.declared.Refusal.TheVariants as refusal
use Rattle.refusal.specs.Order.{◌or_else◌, refuse_if, first_of, by_verdict}
use Rattle.refusal.specs.Refusal.{accepted_head}
use Rattle.offset.specs.Report.{refusal_head}
use Rattle.section.specs.declared.Section.{Section}
use Rattle.header.specs.declared.Summary.{Summary}
use Rattle.header.specs.Open.{open_of}
use Rattle.symbol.specs.declared.Tables.{Tables}
use Rattle.symbol.specs.Entry.{tables_of}
use Rattle.table_kind.specs.declared.TableKind.TheVariants.{Relocations}
use Rattle.section_tables.specs.Tables.{table_of}
use Rattle.section_entries.specs.Entries.{entries_check}
use Rattle.object.specs.declared.ObjectFile.{ObjectFile}
use Rattle.object.specs.declared.ObjectReport.{ObjectReport}
use Rattle.object.specs.Sections.{is_held_kind, section_at, number_at, bytes_before, entries_before, object_section}
use Rattle.refusal.specs.declared.Refusal.{Refusal}
use Rattle.section_tables.specs.declared.SectionTable.{SectionTable}
use Rattle.refusal.specs.Verdict.{Verdict}

abbrev pub table_verdict : Result SectionTable Refusal → Verdict
table_verdict (Ok t) = Ok tt
table_verdict (Err x) = Err x

-- a size but no raw data
abbrev pub lacks_data : Section → Bool
lacks_data s = not (eqb s.size 0) && not s.raw

-- "for each text or data section MODULE 3, BOUNDS"
unfoldable pub section_check : ℕ → Summary → ℕ → Verdict
section_check len y k =
    cond (is_held_kind (section_at y k).kind)
    (refuse_if (lacks_data (section_at y k)) (refusal.Module NoRawData) or_else table_verdict (table_of Relocations y len (number_at k)))
    (Ok tt)

unfoldable pub sections_check : ℕ → Summary → Verdict
sections_check len y = first_of (section_check len y) 0 y.count

-- "then by entry LREL and OVERLAP", section by section
unfoldable pub table_check : List ℕ → Summary → ℕ → Verdict
table_check file y k = entries_check file (tables_of file y) (object_section (length file) y k)

unfoldable pub tables_check : List ℕ → Summary → Verdict
tables_check file y = first_of (table_check file y) 0 y.count

unfoldable pub object_in : List ℕ → Summary → Verdict
object_in file y = sections_check (length file) y or_else tables_check file y

unfoldable pub object_check : List ℕ → Verdict
object_check file = (open_of file).verdict or_else object_in file (open_of file).summary

-- ---- the answer

-- how many addresses a plan has, how many entries there are, and how long the buffer is
unfoldable pub file_of : ℕ → Summary → ObjectFile
file_of len y = record { sections = y.count; entries = entries_before len y y.count; length = bytes_before len y y.count }

unfoldable pub object_at : List ℕ → Result ObjectFile Refusal
object_at file = by_verdict (object_check file) (Ok (file_of (length file) (open_of file).summary)) Err

abbrev pub report_of_object : List ℕ → Result ObjectFile Refusal → ObjectReport
report_of_object file (Ok o) = record { head = accepted_head; sections = o.sections; entries = o.entries; length = o.length }
report_of_object file (Err x) = record { head = refusal_head file x; sections = 0; entries = 0; length = 0 }

abbrev pub object_report : List ℕ → ObjectReport
object_report file = report_of_object file (object_at file)

-- ---- what is known once a file is open, and once its sections are accepted

pub record Ready (file : List ℕ) (y : Summary) (t : Tables) : Type 0 where
  pub accepted : (open_of file).verdict ≡ Ok tt
  pub summary : y ≡ (open_of file).summary
  pub tables : t ≡ tables_of file y

pub record SectionsReady (file : List ℕ) (y : Summary) (t : Tables) : Type 0 where
  pub opened : Ready file y t
  pub sections : sections_check (length file) y ≡ Ok tt
