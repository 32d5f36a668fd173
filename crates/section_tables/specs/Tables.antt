-- The tables that a section has of its own, relocations and line numbers: one definition over the kind of table and the format.
use Rattle.std.specs.Prelude.{ℕ, zero, suc, ◌+◌, ◌-◌, ◌*◌, ◌≤◌, Bool, false, cond, ◌&&◌, List, eqb, get_or, Err, Ok, Result}
use Rattle.word.specs.Test.{past}
use Rattle.section_kind.specs.declared.SectionKind.TheVariants.{Ovrflo}
use Rattle.section_kind.specs.Kind.{flags_of}
use Rattle.format.specs.declared.FileOffset.{FileOffset}
use Rattle.format.specs.declared.Format.{Format}
use Rattle.format.specs.declared.Format.TheVariants.{Xcoff32, Xcoff64}
use Rattle.format.specs.declared.SectionNumber.{SectionNumber}
use Rattle.refusal.specs.declared.BoundsItem.TheVariants as bounds
use Rattle.refusal.specs.declared.Refusal.TheVariants.{Bounds}
use Rattle.section.specs.declared.Section.{Section}
use Rattle.file_tables.specs.Tables.{blank_section}
use Rattle.header.specs.declared.Summary.{Summary}
use Rattle.table_kind.specs.declared.TableKind.{TableKind}
use Rattle.table_kind.specs.declared.TableKind.TheVariants.{Relocations, Lines}
use Rattle.table_kind.specs.Kind.{entry_length}
use Rattle.section_tables.specs.declared.OverflowHeaders.{OverflowHeaders}
use Rattle.refusal.specs.declared.Refusal.{Refusal}
use Rattle.section_tables.specs.declared.SectionTable.{SectionTable}

-- ---- what a section header says

abbrev pub header_start : TableKind → Section → FileOffset
header_start Relocations s = s.relptr
header_start Lines s = s.lnnoptr

abbrev pub header_count : TableKind → Section → ℕ
header_count Relocations s = s.nreloc
header_count Lines s = s.nlnno

-- in XCOFF32 a count of 65,535 is replaced by that in an overflow header
unfoldable pub is_overflowed : TableKind → Format → Section → Bool
is_overflowed k Xcoff32 s = eqb (header_count k s) 65535
is_overflowed k Xcoff64 s = false

-- ---- overflow headers

-- that of section n: `s_nreloc` is its number, for both kinds of table
unfoldable pub is_overflow_of : Section → SectionNumber → Bool
is_overflow_of s n = eqb (flags_of s.kind) (flags_of Ovrflo) && eqb s.nreloc n.0

-- the count that it gives: in its physical address for relocations, in its virtual address for lines
abbrev pub overflow_count : TableKind → Section → ℕ
overflow_count Relocations s = s.paddr.0
overflow_count Lines s = s.vaddr.0

-- how many overflow headers of section n the first i sections hold, and the count that the last of them gives
unfoldable pub overflow_step : TableKind → SectionNumber → Section → OverflowHeaders → OverflowHeaders
overflow_step k n s o = cond (is_overflow_of s n) (record { headers = o.headers + 1; count = overflow_count k s }) o

unfoldable pub overflow_in : TableKind → List Section → SectionNumber → ℕ → OverflowHeaders
overflow_in k sections n zero = record { headers = 0; count = 0 }
overflow_in k sections n (suc i) = overflow_step k n (get_or sections i blank_section) (overflow_in k sections n i)

abbrev pub overflow_of : TableKind → Summary → SectionNumber → OverflowHeaders
overflow_of k y n = overflow_in k y.sections n y.count

-- ---- the table

-- BOUNDS: offset + size passes the file's `len` bytes, also where the count is 0
unfoldable pub table_at : TableKind → Format → ℕ → SectionNumber → FileOffset → ℕ → Result SectionTable Refusal
table_at k f len n start count =
    cond (past start.0 (count * entry_length k f) len) (Err (Bounds (bounds.SectionTable n)))
    (Ok (record { start = start; count = count }))

-- by what the header of section n says: where an overflow header is looked up it must be there exactly once
unfoldable pub table_by : TableKind → Summary → ℕ → SectionNumber → Section → Result SectionTable Refusal
table_by k y len n s =
    cond (is_overflowed k y.format s)
    (cond (eqb (overflow_of k y n).headers 1) (table_at k y.format len n (header_start k s) (overflow_of k y n).count) (Err (Bounds (bounds.SectionTable n))))
    (table_at k y.format len n (header_start k s) (header_count k s))

-- the table of section n, from one, of an opened file of `len` bytes
abbrev pub table_of : TableKind → Summary → ℕ → SectionNumber → Result SectionTable Refusal
table_of k y len n = table_by k y len n (get_or y.sections (n.0 - 1) blank_section)

-- what is found lies in a file of `len` bytes
abbrev pub Within : TableKind → Format → ℕ → Result SectionTable Refusal → Type 0
Within k f len (Ok t) = t.start.0 + t.count * entry_length k f ≤ len
Within k f len (Err x) = Unit {0}
