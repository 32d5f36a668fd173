-- From an address to a line, in the order of request 7: opening's refusals, INDEX, BOUNDS, GROUP, NOLINE.
use Rattle.std.specs.Prelude.{ℕ, ◌-◌, not, List, eqb, length, get_or, Err, Ok, Result}
use Rattle.section_kind.specs.declared.SectionKind.TheVariants.{Text}
use Rattle.section_kind.specs.Kind.{flags_of}
use Rattle.format.specs.declared.Format.{Format}
use Rattle.format.specs.declared.SectionNumber.{SectionNumber}
use Rattle.refusal.specs.declared.IndexItem.TheVariants.{NoSection}
use Rattle.refusal.specs.declared.Refusal.TheVariants as refusal
use Rattle.refusal.specs.Order.{◌or_else◌, refuse_if, by_verdict}
use Rattle.refusal.specs.Refusal.{accepted_head}
use Rattle.offset.specs.Report.{refusal_head}
use Rattle.file_tables.specs.Tables.{blank_section}
use Rattle.header.specs.declared.Summary.{Summary}
use Rattle.header.specs.Open.{open_of}
use Rattle.section_lookup.specs.Lookup.{number_check}
use Rattle.table_kind.specs.declared.TableKind.TheVariants.{Lines}
use Rattle.section_tables.specs.Tables.{table_of}
use Rattle.line.specs.declared.LineError.{LineError}
use Rattle.line.specs.Line.{entry_of}
use Rattle.line.specs.Search.{Entries, answer_in, refusal_of}
use Rattle.line_lookup.specs.declared.LineTable.{LineTable}
use Rattle.line_lookup.specs.declared.LineCountReport.{LineCountReport}
use Rattle.line_lookup.specs.declared.LineReport.{LineReport}
use Rattle.refusal.specs.declared.Refusal.{Refusal}
use Rattle.section_tables.specs.declared.SectionTable.{SectionTable}
use Rattle.line.specs.declared.LineFound.{LineFound}
use Rattle.refusal.specs.Verdict.{Verdict}

-- ---- the table of a text section

-- INDEX: no such text section
unfoldable pub text_check : Summary → SectionNumber → Verdict
text_check y n =
    number_check y.count n
    or_else refuse_if (not (eqb (flags_of (get_or y.sections (n.0 - 1) blank_section).kind) (flags_of Text))) (refusal.Index (NoSection n))

abbrev pub with_format : Format → Result SectionTable Refusal → Result LineTable Refusal
with_format f (Ok t) = Ok (record { format = f; start = t.start; count = t.count })
with_format f (Err x) = Err x

-- INDEX, then BOUNDS, in an opened file of `len` bytes
unfoldable pub line_table_in : ℕ → Summary → SectionNumber → Result LineTable Refusal
line_table_in len y n = by_verdict (text_check y n) (with_format y.format (table_of Lines y len n)) Err

unfoldable pub line_table_at : List ℕ → SectionNumber → Result LineTable Refusal
line_table_at file n = by_verdict (open_of file).verdict (line_table_in (length file) (open_of file).summary n) Err

-- the entries of a table in a file
abbrev pub entries_in : List ℕ → LineTable → Entries
entries_in file t = entry_of file t.start.0 t.format

-- ---- the entry for an address

-- GROUP and NOLINE
abbrev pub lookup_of : Result LineFound LineError → Result LineFound Refusal
lookup_of (Ok r) = Ok r
lookup_of (Err e) = Err (refusal_of e)

abbrev pub find_in : List ℕ → ℕ → Result LineTable Refusal → Result LineFound Refusal
find_in file address (Ok t) = lookup_of (answer_in (entries_in file t) address t.count)
find_in file address (Err x) = Err x

unfoldable pub line_at : List ℕ → SectionNumber → ℕ → Result LineFound Refusal
line_at file n address = find_in file address (line_table_at file n)

-- ---- the answers in the documents' numbers

abbrev pub report_of_count : List ℕ → Result LineTable Refusal → LineCountReport
report_of_count file (Ok t) = record { head = accepted_head; count = t.count }
report_of_count file (Err x) = record { head = refusal_head file x; count = 0 }

abbrev pub count_report : List ℕ → SectionNumber → LineCountReport
count_report file n = report_of_count file (line_table_at file n)

abbrev pub report_of_line : List ℕ → Result LineFound Refusal → LineReport
report_of_line file (Ok r) =
    record { head = accepted_head; entry = r.number; address = r.mark.address.0; line = r.mark.line; symbol = r.symbol.0 }
report_of_line file (Err x) =
    record { head = refusal_head file x; entry = 0; address = 0; line = 0; symbol = 0 }

abbrev pub line_report : List ℕ → SectionNumber → ℕ → LineReport
line_report file n address = report_of_line file (line_at file n address)
