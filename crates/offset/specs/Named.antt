-- What a refusal names is there: request 4's promise on an offset.
use Rattle.std.specs.Prelude.{ℕ, ◌+◌, ◌-◌, ◌*◌, ◌≤◌, ◌<◌, ◌≡◌, List, length, None, Option, Some}
use Rattle.word.specs.Number.{field_in}
use Rattle.format.specs.Layout.{magic_field, format_of, section_layout, symbol_length, loader_symbol_length, relocation_layout}
use Rattle.refusal.specs.declared.Refusal.{Refusal}
use Rattle.refusal.specs.declared.Refusal.TheVariants.{Short, Magic, Limit, Kind, Bounds, Address, Strings, Index, Aux, Name, Scnum, Csect, Module, Thread, Loader, Lsym, Lrel, SectionLrel, Overlap, SectionOverlap, Plan, Room, Sheet, Record, Form, Clash, Range, Full, Absent, Long, Shared, Visibility, NoLine, Group}
use Rattle.refusal.specs.declared.SectionRelocation.{SectionRelocation}
use Rattle.refusal.specs.declared.LimitItem.{LimitItem}
use Rattle.refusal.specs.declared.LimitItem.TheVariants.{File, Sections, LoaderSymbols, SheetList, Relocations, DataImage, SalvageReport}
use Rattle.refusal.specs.declared.BoundsItem.{BoundsItem}
use Rattle.refusal.specs.declared.BoundsItem.TheVariants.{RawData, SectionTable, SymbolTable, StringTable}
use Rattle.refusal.specs.declared.AddressItem.{AddressItem}
use Rattle.refusal.specs.declared.AddressItem.TheVariants.{Misplaced, BssBelowData}
use Rattle.refusal.specs.declared.ThreadItem.{ThreadItem}
use Rattle.refusal.specs.declared.ThreadItem.TheVariants.{ThreadSection, ThreadSymbol}
use Rattle.section.specs.Section.{section_header_at}
use Rattle.table_kind.specs.declared.TableKind.TheVariants.{Relocations as RelocationTable}
use Rattle.table_kind.specs.Kind.{entry_length}
use Rattle.file_header.specs.declared.FileHeader.{FileHeader}
use Rattle.file_header.specs.Header.{header_at, section_start}
use Rattle.loader_header.specs.declared.LoaderHeader.{LoaderHeader}
use Rattle.loader_header.specs.Header.{loader_header_at}
use Rattle.offset.specs.Offset.{loader_in, offset_of}
use Rattle.format.specs.declared.Format.{Format}

-- off is the place of entry k, of n bytes, in a table of `count` entries from start that ends in the file's `len` bytes
pub record Entry (len start n count k off : ℕ) : Type 0 where
  pub known : k < count
  pub inside : start + count * n ≤ len
  pub here : off ≡ start + k * n

-- where the loader section of the file with the header h starts, and its header
abbrev pub loader_start : List ℕ → FileHeader → ℕ
loader_start file h = loader_in file h h.nscns

abbrev pub loader_of : List ℕ → FileHeader → LoaderHeader
loader_of file h = loader_header_at h.format (loader_start file h) file

module _ (file : List ℕ) (h : FileHeader) where
  -- the header of section n, from one, in the header area
  abbrev pub NamesHeader : ℕ → ℕ → Type 0
  NamesHeader n off = (0 < n) × Entry (length file) (section_start h.format h.opthdr 0) (section_layout h.format).length h.nscns (n - 1) off

  -- symbol i in the symbol table
  abbrev pub NamesSymbol : ℕ → ℕ → Type 0
  NamesSymbol i off = Entry (length file) h.symptr.0 symbol_length h.nsyms i off

  -- the string table, which follows the symbols
  abbrev pub NamesStrings : ℕ → Type 0
  NamesStrings off = (off ≡ h.symptr.0 + h.nsyms * symbol_length) × (off ≤ length file)

  -- the loader section; an empty one may start at the file's end
  abbrev pub NamesLoader : ℕ → Type 0
  NamesLoader off = (off ≡ loader_start file h) × (off ≤ length file)

  -- loader symbol i, from 3, in its table
  abbrev pub NamesLoaderSymbol : ℕ → ℕ → Type 0
  NamesLoaderSymbol i off = (2 < i) × Entry (length file) (loader_start file h + (loader_of file h).symoff) loader_symbol_length (loader_of file h).nsyms (i - 3) off

  -- relocation entry i of the loader section
  abbrev pub NamesRelocation : ℕ → ℕ → Type 0
  NamesRelocation i off = Entry (length file) (loader_start file h + (loader_of file h).rldoff) (relocation_layout h.format).length (loader_of file h).nreloc i off

  -- where section n's own relocation table starts, as its header says
  abbrev pub section_table_start : ℕ → ℕ
  section_table_start n = (section_header_at h.format (section_start h.format h.opthdr 0 + (n - 1) * (section_layout h.format).length) file).relptr.0

  -- an entry of the table, whole in the file; how many there are may stand in an overflow header
  abbrev pub NamesSectionRelocation : SectionRelocation → ℕ → Type 0
  NamesSectionRelocation e off =
      (0 < e.section.0) × (e.section.0 ≤ h.nscns)
      × Entry (length file) (section_table_start e.section.0) (entry_length RelocationTable h.format) (e.index + 1) e.index off

  abbrev pub NamesLimit : LimitItem → ℕ → Type 0
  NamesLimit LoaderSymbols off = NamesLoader off
  NamesLimit Relocations off = NamesLoader off
  NamesLimit File off = off ≡ 0
  NamesLimit Sections off = off ≡ 0
  NamesLimit SheetList off = off ≡ 0
  NamesLimit DataImage off = off ≡ 0
  NamesLimit SalvageReport off = off ≡ 0

  abbrev pub NamesBounds : BoundsItem → ℕ → Type 0
  NamesBounds (RawData n) off = NamesHeader n.0 off
  NamesBounds (SectionTable n) off = NamesHeader n.0 off
  NamesBounds SymbolTable off = off ≡ 0
  NamesBounds StringTable off = off ≡ 0

  abbrev pub NamesAddress : AddressItem → ℕ → Type 0
  NamesAddress (Misplaced n) off = NamesHeader n.0 off
  NamesAddress (BssBelowData n) off = NamesHeader n.0 off

  abbrev pub NamesThread : ThreadItem → ℕ → Type 0
  NamesThread (ThreadSection n) off = NamesHeader n.0 off
  NamesThread (ThreadSymbol i) off = NamesRelocation i.0 off

  -- off is where what the item names lies, 0 where it names nothing in the file
  abbrev pub Names : Refusal → ℕ → Type 0
  Names (Limit i) off = NamesLimit i off
  Names (Kind n) off = NamesHeader n.0 off
  Names (Bounds i) off = NamesBounds i off
  Names (Address i) off = NamesAddress i off
  Names Strings off = NamesStrings off
  Names (Aux i) off = NamesSymbol i.0 off
  Names (Name i) off = NamesSymbol i.0 off
  Names (Scnum i) off = NamesSymbol i.0 off
  Names (Csect i) off = NamesSymbol i.0 off
  Names (Visibility i) off = NamesSymbol i.0 off
  Names (Thread i) off = NamesThread i off
  Names (Loader i) off = NamesLoader off
  Names (Lsym i) off = NamesLoaderSymbol i off
  Names (Lrel i) off = NamesRelocation i.0 off
  Names (SectionLrel e) off = NamesSectionRelocation e off
  Names (Overlap i) off = NamesRelocation i.0 off
  Names (SectionOverlap e) off = NamesSectionRelocation e off
  Names (Range e) off = NamesSectionRelocation e off
  Names Short off = off ≡ 0
  Names Magic off = off ≡ 0
  Names (Index i) off = off ≡ 0
  Names (Module i) off = off ≡ 0
  Names (Plan i) off = off ≡ 0
  Names (Room i) off = off ≡ 0
  Names Sheet off = off ≡ 0
  Names (Record i) off = off ≡ 0
  Names Form off = off ≡ 0
  Names Clash off = off ≡ 0
  Names Full off = off ≡ 0
  Names Absent off = off ≡ 0
  Names Long off = off ≡ 0
  Names Shared off = off ≡ 0
  Names NoLine off = off ≡ 0
  Names Group off = off ≡ 0

abbrev pub NamedBy : List ℕ → Option Format → Refusal → Type 0
NamedBy file None x = offset_of file x ≡ 0
NamedBy file (Some f) x = Names file (header_at f file) x (offset_of file x)

-- the offset of a refusal of the file is where what its item names lies, whole and in its own place: a file without a format names nothing
abbrev pub Named : List ℕ → Refusal → Type 0
Named file x = NamedBy file (format_of (field_in magic_field 0 file)) x
