-- The tables that an opened file has: its sections, its symbols, its strings.
use Rattle.std.specs.Prelude.{ℕ, zero, suc, ◌+◌, ◌*◌, false, cond, ◌&&◌, List, eqb, ltb, length, set, replicate, Err, Ok, Result}
use Rattle.word.specs.Number.{field_at}
use Rattle.word.specs.Test.{past}
use Rattle.section_kind.specs.declared.SectionKind.TheVariants.{Deleted}
use Rattle.format.specs.Limit.{section_limit}
use Rattle.format.specs.Layout.{symbol_length}
use Rattle.format.specs.Range.{range}
use Rattle.refusal.specs.declared.Refusal.{Refusal}
use Rattle.refusal.specs.declared.Refusal.TheVariants.{Bounds, Strings}
use Rattle.refusal.specs.declared.BoundsItem.TheVariants as bounds
use Rattle.refusal.specs.Order.{◌or_else◌, refuse_if, first_of, by_verdict}
use Rattle.section.specs.declared.Section.{Section}
use Rattle.section.specs.Section.{section_header_at, judge_section}
use Rattle.file_header.specs.declared.FileHeader.{FileHeader}
use Rattle.file_tables.specs.declared.SymbolTable.{SymbolTable}
use Rattle.file_tables.specs.declared.Scan.{Scan}
use Rattle.file_header.specs.Header.{section_start}
use Rattle.refusal.specs.Verdict.{Verdict}

-- ---- sections

-- the record where there is no section
abbrev pub blank_section : Section
blank_section =
    record {
      kind = Deleted;
      paddr = record { 0 = 0 };
      vaddr = record { 0 = 0 };
      size = 0;
      scnptr = record { 0 = 0 };
      relptr = record { 0 = 0 };
      lnnoptr = record { 0 = 0 };
      nreloc = 0;
      nlnno = 0;
      raw = false;
    }

unfoldable pub blank_sections : List Section
blank_sections = replicate section_limit blank_section

-- what section i + 1 is judged to be
unfoldable pub judged_at : List ℕ → FileHeader → ℕ → Result Section Refusal
judged_at file h i = judge_section h.format (length file) (section_header_at h.format (section_start h.format h.opthdr i) file) (record { 0 = i + 1 })

abbrev pub verdict_of : Result Section Refusal → Verdict
verdict_of (Ok s) = Ok tt
verdict_of (Err x) = Err x

abbrev pub record_of : Result Section Refusal → Section
record_of (Ok s) = s
record_of (Err x) = blank_section

-- each section in order: KIND, BOUNDS, ADDRESS
unfoldable pub sections_check : List ℕ → FileHeader → Verdict
sections_check file h = first_of (λ i. verdict_of (judged_at file h i)) 0 h.nscns

-- the records of the first n sections, each at its place
unfoldable pub sections_of : List ℕ → FileHeader → ℕ → List Section
sections_of file h zero = blank_sections
sections_of file h (suc i) = set (sections_of file h i) i (record_of (judged_at file h i))

unfoldable pub refused_scan : Refusal → Scan
refused_scan x = record { verdict = Err x; sections = blank_sections }

unfoldable pub scan_of : List ℕ → FileHeader → Scan
scan_of file h = by_verdict (sections_check file h) (record { verdict = Ok tt; sections = sections_of file h h.nscns }) refused_scan

-- ---- symbols and strings

-- the end of the symbol table, where the string table follows at once
unfoldable pub symbols_end : FileHeader → ℕ
symbols_end h = h.symptr.0 + h.nsyms * symbol_length

-- the string table's own length, at its start; 0 where the file ends there
unfoldable pub strings_length : List ℕ → ℕ → ℕ
strings_length file end = cond (eqb end (length file)) 0 (field_at 4 end file)

-- the string table at `end`: none if the file ends there; 1 to 3 bytes left, BOUNDS; length 0, none; 1 to 3, STRINGS; past the end, BOUNDS
unfoldable pub strings_check : List ℕ → ℕ → Verdict
strings_check file end =
    cond (eqb end (length file)) (Ok tt)
    (refuse_if (past end 4 (length file)) (Bounds bounds.StringTable)
    or_else refuse_if (ltb 0 (field_at 4 end file) && ltb (field_at 4 end file) 4) Strings
    or_else refuse_if (past end (field_at 4 end file) (length file)) (Bounds bounds.StringTable))

-- no symbols: no strings. Otherwise the symbols, then the strings
unfoldable pub symbols_check : List ℕ → FileHeader → Verdict
symbols_check file h =
    cond (eqb h.nsyms 0) (Ok tt)
    (refuse_if (past h.symptr.0 (h.nsyms * symbol_length) (length file)) (Bounds bounds.SymbolTable)
    or_else strings_check file (symbols_end h))

abbrev pub table_at : ℕ → ℕ → ℕ → ℕ → SymbolTable
table_at start count strings size =
    record { start = record { 0 = start }; count = count; strings = range strings size }

-- where symbols and strings lie
unfoldable pub symbol_table : List ℕ → FileHeader → SymbolTable
symbol_table file h =
    cond (eqb h.nsyms 0) (table_at 0 0 0 0)
    (table_at h.symptr.0 h.nsyms (symbols_end h) (strings_length file (symbols_end h)))
