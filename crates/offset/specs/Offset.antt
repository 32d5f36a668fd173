-- Where in the file the section header or table entry lies that a refusal's item names.
use Rattle.std.specs.Prelude.{ℕ, zero, suc, ◌+◌, ◌-◌, ◌*◌, cond, List, eqb, ltb, length, None, Option, Some}
use Rattle.word.specs.Number.{field_in}
use Rattle.word.specs.Test.{past}
use Rattle.section_kind.specs.declared.SectionKind.TheVariants as kind
use Rattle.section_kind.specs.Kind.{flags_of}
use Rattle.format.specs.declared.Format.{Format}
use Rattle.format.specs.Layout.{magic_field, format_of, section_layout, symbol_length, loader_layout, loader_symbol_length, relocation_layout}
use Rattle.format.specs.Limit.{file_limit}
use Rattle.refusal.specs.declared.Refusal.{Refusal}
use Rattle.refusal.specs.declared.Refusal.TheVariants.{Short, Magic, Limit, Kind, Bounds, Address, Strings, Index, Aux, Name, Scnum, Csect, Module, Thread, Loader, Lsym, Lrel, SectionLrel, Overlap, SectionOverlap, Plan, Room, Sheet, Record, Form, Clash, Range, Full, Absent, Long, Shared, Visibility, NoLine, Group}
use Rattle.refusal.specs.declared.SectionRelocation.{SectionRelocation}
use Rattle.refusal.specs.declared.LimitItem.{LimitItem}
use Rattle.refusal.specs.declared.LimitItem.TheVariants.{File, Sections, LoaderSymbols, SheetList, Relocations, DataImage, SalvageReport}
use Rattle.refusal.specs.declared.BoundsItem.{BoundsItem}
use Rattle.refusal.specs.declared.BoundsItem.TheVariants.{RawData, SectionTable, SymbolTable, StringTable}
use Rattle.refusal.specs.declared.AddressItem.{AddressItem}
use Rattle.refusal.specs.declared.AddressItem.TheVariants.{Misplaced, BssBelowData}
use Rattle.refusal.specs.declared.ThreadItem.{ThreadItem}
use Rattle.refusal.specs.declared.ThreadItem.TheVariants.{ThreadSection, ThreadSymbol}
use Rattle.refusal.specs.Order.{if_accepted}
use Rattle.section.specs.Section.{section_header_at}
use Rattle.table_kind.specs.declared.TableKind.TheVariants.{Relocations as RelocationTable}
use Rattle.table_kind.specs.Kind.{entry_length}
use Rattle.file_header.specs.declared.FileHeader.{FileHeader}
use Rattle.file_header.specs.Header.{header_at, section_start, header_check}
use Rattle.loader_header.specs.Header.{symbols_offset, relocations_offset}
use Rattle.offset.specs.declared.Starts.{Starts}
use Rattle.offset.specs.declared.LoaderStarts.{LoaderStarts}

-- ---- places, 0 where they are not in the file's `len` bytes

-- `off` bytes behind start
abbrev pub placed : ℕ → ℕ → ℕ → ℕ
placed len start off = cond (past start off len) 0 (start + off)

-- entry k, whole, of a table from start with entries of n bytes
abbrev pub entry_place : ℕ → ℕ → ℕ → ℕ → ℕ
entry_place len start n k = cond (past start ((k + 1) * n) len) 0 (start + k * n)

-- ---- where a file keeps what items name

-- the raw data pointer of the last loader section among the first n
unfoldable pub loader_in : List ℕ → FileHeader → ℕ → ℕ
loader_in file h zero = 0
loader_in file h (suc i) =
    let s = section_header_at h.format (section_start h.format h.opthdr i) file in
    cond (eqb s.flags (flags_of kind.Loader)) s.scnptr.0 (loader_in file h i)

-- a table of the loader section at l, by the offset in its header: 0 where the header is not whole in the file
abbrev pub loader_table : List ℕ → Format → ℕ → ℕ → ℕ
loader_table file f l off = cond (past l (loader_layout f).length (length file)) 0 (placed (length file) l off)

unfoldable pub loader_starts : List ℕ → Format → ℕ → LoaderStarts
loader_starts file f l = record { lsyms = loader_table file f l (symbols_offset f l file); lrels = loader_table file f l (relocations_offset f l file) }

unfoldable pub starts_as : Format → List ℕ → Starts
starts_as f file =
    let h = header_at f file in
    let l = loader_in file h h.nscns in
    record {
      format = f;
      length = length file;
      sections = section_start f h.opthdr 0;
      symbols = h.symptr.0;
      strings = placed (length file) h.symptr.0 (h.nsyms * symbol_length);
      loader = placed (length file) l 0;
      lsyms = (loader_starts file f l).lsyms;
      lrels = (loader_starts file f l).lrels;
    }

abbrev pub starts_by : List ℕ → Option Format → Option Starts
starts_by file None = None
starts_by file (Some f) = if_accepted (header_check f file) (Some (starts_as f file)) None

-- known once the headers are in the file
unfoldable pub starts_of : List ℕ → Option Starts
starts_of file =
    cond (ltb file_limit (length file)) None
    (cond (ltb (length file) 2) None
    (starts_by file (format_of (field_in magic_field 0 file))))

-- ---- the offset of a refusal

-- the header of section n, from one
abbrev pub header_place : Starts → ℕ → ℕ
header_place s n = entry_place s.length s.sections (section_layout s.format).length (n - 1)

abbrev pub symbol_place : Starts → ℕ → ℕ
symbol_place s i = entry_place s.length s.symbols symbol_length i

-- loader symbols are counted from 3
abbrev pub loader_symbol_place : Starts → ℕ → ℕ
loader_symbol_place s i = entry_place s.length s.lsyms loader_symbol_length (i - 3)

abbrev pub relocation_place : Starts → ℕ → ℕ
relocation_place s i = entry_place s.length s.lrels (relocation_layout s.format).length i

-- where section n's own relocation table starts, by its header: 0 where that is not in the file
abbrev pub section_table : List ℕ → Starts → ℕ → ℕ
section_table file s n = cond (eqb (header_place s n) 0) 0 (section_header_at s.format (header_place s n) file).relptr.0

abbrev pub section_relocation_place : List ℕ → Starts → SectionRelocation → ℕ
section_relocation_place file s e = entry_place s.length (section_table file s e.section.0) (entry_length RelocationTable s.format) e.index

abbrev pub limit_place : Starts → LimitItem → ℕ
limit_place s LoaderSymbols = s.loader
limit_place s Relocations = s.loader
limit_place s File = 0
limit_place s Sections = 0
limit_place s SheetList = 0
limit_place s DataImage = 0
limit_place s SalvageReport = 0

abbrev pub bounds_place : Starts → BoundsItem → ℕ
bounds_place s (RawData n) = header_place s n.0
bounds_place s (SectionTable n) = header_place s n.0
bounds_place s SymbolTable = 0
bounds_place s StringTable = 0

abbrev pub address_place : Starts → AddressItem → ℕ
address_place s (Misplaced n) = header_place s n.0
address_place s (BssBelowData n) = header_place s n.0

abbrev pub thread_place : Starts → ThreadItem → ℕ
thread_place s (ThreadSection n) = header_place s n.0
thread_place s (ThreadSymbol i) = relocation_place s i.0

-- the first byte of the header or entry that the item names, of the string table for STRINGS, of the loader section for LOADER and a module's LIMIT 2 and 3; 0 for every other
abbrev pub offset_in : List ℕ → Starts → Refusal → ℕ
offset_in file s (Limit i) = limit_place s i
offset_in file s (Kind n) = header_place s n.0
offset_in file s (Bounds i) = bounds_place s i
offset_in file s (Address i) = address_place s i
offset_in file s Strings = s.strings
offset_in file s (Aux i) = symbol_place s i.0
offset_in file s (Name i) = symbol_place s i.0
offset_in file s (Scnum i) = symbol_place s i.0
offset_in file s (Csect i) = symbol_place s i.0
offset_in file s (Visibility i) = symbol_place s i.0
offset_in file s (Thread i) = thread_place s i
offset_in file s (Loader i) = s.loader
offset_in file s (Lsym i) = loader_symbol_place s i
offset_in file s (Lrel i) = relocation_place s i.0
offset_in file s (SectionLrel e) = section_relocation_place file s e
offset_in file s (Overlap i) = relocation_place s i.0
offset_in file s (SectionOverlap e) = section_relocation_place file s e
offset_in file s (Range e) = section_relocation_place file s e
offset_in file s Short = 0
offset_in file s Magic = 0
offset_in file s (Index i) = 0
offset_in file s (Module i) = 0
offset_in file s (Plan i) = 0
offset_in file s (Room i) = 0
offset_in file s Sheet = 0
offset_in file s (Record i) = 0
offset_in file s Form = 0
offset_in file s Clash = 0
offset_in file s Full = 0
offset_in file s Absent = 0
offset_in file s Long = 0
offset_in file s Shared = 0
offset_in file s NoLine = 0
offset_in file s Group = 0

abbrev pub offset_by : List ℕ → Option Starts → Refusal → ℕ
offset_by file None x = 0
offset_by file (Some s) x = offset_in file s x

abbrev pub offset_of : List ℕ → Refusal → ℕ
offset_of file x = offset_by file (starts_of file) x
