-- What opening a file gives, in the order of document 01, "Opening".
use Rattle.std.specs.Prelude.{ℕ, List, ltb, length, Err, None, Ok, Option, Some}
use Rattle.word.specs.Number.{field_in}
use Rattle.format.specs.declared.Format.{Format}
use Rattle.format.specs.declared.Format.TheVariants.{Xcoff32}
use Rattle.format.specs.Layout.{magic_field, format_of, bits_of}
use Rattle.format.specs.Limit.{file_limit}
use Rattle.refusal.specs.declared.Refusal.{Refusal}
use Rattle.refusal.specs.declared.Refusal.TheVariants.{Short, Magic, Limit}
use Rattle.refusal.specs.declared.LimitItem.TheVariants.{File}
use Rattle.refusal.specs.Order.{◌or_else◌, refuse_if, by_verdict, if_accepted}
use Rattle.offset.specs.Report.{report_head}
use Rattle.section.specs.declared.Section.{Section}
use Rattle.file_header.specs.declared.FileHeader.{FileHeader}
use Rattle.header.specs.declared.Summary.{Summary}
use Rattle.header.specs.declared.Opened.{Opened}
use Rattle.header.specs.declared.OpenReport.{OpenReport}
use Rattle.file_header.specs.Header.{header_at, header_check}
use Rattle.file_tables.specs.Tables.{blank_sections, sections_check, sections_of, symbols_check, table_at, symbol_table}
use Rattle.refusal.specs.Verdict.{Verdict}

-- what is handed back beside a refusal
unfoldable pub blank_summary : Summary
blank_summary =
    record { format = Xcoff32; count = 0; sections = blank_sections; symbols = table_at 0 0 0 0; opthdr = 0; flags = 0 }

-- the summary of an accepted file with the section records t
unfoldable pub summary_with : List ℕ → FileHeader → List Section → Summary
summary_with file h t =
    record {
      format = h.format;
      count = h.nscns;
      sections = t;
      symbols = symbol_table file h;
      opthdr = h.opthdr;
      flags = h.flags;
    }

-- ---- the order of opening

-- by the format: the file header, then each section, then symbols
unfoldable pub format_check : Format → List ℕ → Verdict
format_check f file = header_check f file or_else sections_check file (header_at f file) or_else symbols_check file (header_at f file)

-- MAGIC, then by the format
abbrev pub magic_check : List ℕ → Option Format → Verdict
magic_check file None = Err Magic
magic_check file (Some f) = format_check f file

-- LIMIT 0, SHORT, then by the magic number
unfoldable pub open_check : List ℕ → Verdict
open_check file =
    refuse_if (ltb file_limit (length file)) (Limit File)
    or_else refuse_if (ltb (length file) 2) Short
    or_else magic_check file (format_of (field_in magic_field 0 file))

-- ---- the answer

abbrev pub refused_by : Refusal → Opened
refused_by x = record { verdict = Err x; summary = blank_summary }

abbrev pub accepted_with : Summary → Opened
accepted_with y = record { verdict = Ok tt; summary = y }

-- the summary of a file with the magic number of f
unfoldable pub summary_as : Format → List ℕ → Summary
summary_as f file = summary_with file (header_at f file) (sections_of file (header_at f file) (header_at f file).nscns)

abbrev pub summary_by : List ℕ → Option Format → Summary
summary_by file None = blank_summary
summary_by file (Some f) = summary_as f file

unfoldable pub open_of : List ℕ → Opened
open_of file = by_verdict (open_check file) (accepted_with (summary_by file (format_of (field_in magic_field 0 file)))) refused_by

-- the answer in document 01's numbers; a blank summary has a format, and a refused file none
abbrev pub report_of_opened : List ℕ → Opened → OpenReport
report_of_opened file o =
    record {
      head = report_head file o.verdict;
      bits = if_accepted o.verdict (bits_of o.summary.format) 0;
      sections = o.summary.count;
      symbols = o.summary.symbols.count;
      opthdr = o.summary.opthdr;
      flags = o.summary.flags;
    }

abbrev pub open_report : List ℕ → OpenReport
open_report file = report_of_opened file (open_of file)
