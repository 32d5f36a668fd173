-- A section looked up by its number: opening's refusals, then INDEX.
use Rattle.std.specs.Prelude.{ℕ, ◌-◌, ◌%◌, ◌||◌, List, eqb, ltb, get_or, Err, Ok, Result}
use Rattle.format.specs.declared.FileRange.{FileRange}
use Rattle.format.specs.declared.SectionNumber.{SectionNumber}
use Rattle.section_kind.specs.Kind.{flags_of}
use Rattle.format.specs.Layout.{section_layout}
use Rattle.format.specs.Range.{text_in}
use Rattle.refusal.specs.declared.Refusal.TheVariants.{Index}
use Rattle.refusal.specs.declared.IndexItem.TheVariants.{NoSection}
use Rattle.refusal.specs.Order.{◌or_else◌, refuse_if, by_verdict}
use Rattle.refusal.specs.Refusal.{accepted_head, one_if}
use Rattle.offset.specs.Report.{refusal_head}
use Rattle.header.specs.declared.Summary.{Summary}
use Rattle.file_header.specs.Header.{section_start}
use Rattle.file_tables.specs.Tables.{blank_section}
use Rattle.header.specs.Open.{open_of}
use Rattle.section_lookup.specs.declared.SectionReport.{SectionReport}
use Rattle.refusal.specs.declared.Refusal.{Refusal}
use Rattle.section.specs.declared.Section.{Section}
use Rattle.refusal.specs.Verdict.{Verdict}

-- INDEX: sections are numbered from one
unfoldable pub number_check : ℕ → SectionNumber → Verdict
number_check count n = refuse_if (eqb n.0 0 || ltb count n.0) (Index (NoSection n))

unfoldable pub lookup_check : List ℕ → SectionNumber → Verdict
lookup_check file n = (open_of file).verdict or_else number_check (open_of file).summary.count n

-- the record of section n
unfoldable pub section_at : List ℕ → SectionNumber → Result Section Refusal
section_at file n = by_verdict (lookup_check file n) (Ok (get_or (open_of file).summary.sections (n.0 - 1) blank_section)) Err

-- where the name of section n lies: the 8 bytes of its header up to the first zero
unfoldable pub name_of : List ℕ → Summary → SectionNumber → FileRange
name_of file y n = text_in (section_layout y.format).name (section_start y.format y.opthdr (n.0 - 1)) file

unfoldable pub section_name_at : List ℕ → SectionNumber → Result FileRange Refusal
section_name_at file n = by_verdict (lookup_check file n) (Ok (name_of file (open_of file).summary n)) Err

-- the answer in document 01's numbers; the two tables' offsets and counts as the header has them
abbrev pub report_of_section : List ℕ → Result Section Refusal → SectionReport
report_of_section file (Ok s) =
    record {
      head = accepted_head;
      paddr = s.paddr.0;
      vaddr = s.vaddr.0;
      size = s.size;
      scnptr = s.scnptr.0;
      flag = flags_of s.kind % 65536;
      raw = one_if s.raw;
      relptr = s.relptr.0;
      nreloc = s.nreloc;
      lnnoptr = s.lnnoptr.0;
      nlnno = s.nlnno;
    }
report_of_section file (Err x) =
    record { head = refusal_head file x; paddr = 0; vaddr = 0; size = 0; scnptr = 0; flag = 0; raw = 0; relptr = 0; nreloc = 0; lnnoptr = 0; nlnno = 0 }

abbrev pub section_report : List ℕ → SectionNumber → SectionReport
section_report file n = report_of_section file (section_at file n)
