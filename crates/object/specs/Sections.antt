-- The text and data sections of an object file: their tables, where their bytes are in the buffer, and how their entries are numbered.
use Rattle.std.specs.Prelude.{ℕ, zero, suc, ◌+◌, Bool, cond, [], ◌∷◌, get_or, Err, Ok, Result}
use Rattle.section_kind.specs.declared.SectionKind.{SectionKind}
use Rattle.section_kind.specs.declared.SectionKind.TheVariants.{Text, Data}
use Rattle.section_kind.specs.Kind.{is_one_of}
use Rattle.format.specs.declared.SectionNumber.{SectionNumber}
use Rattle.section.specs.declared.Section.{Section}
use Rattle.file_tables.specs.Tables.{blank_section}
use Rattle.header.specs.declared.Summary.{Summary}
use Rattle.table_kind.specs.declared.TableKind.TheVariants.{Relocations}
use Rattle.section_tables.specs.declared.SectionTable.{SectionTable}
use Rattle.section_tables.specs.Tables.{table_of}
use Rattle.section_relocation.specs.declared.ObjectSection.{ObjectSection}
use Rattle.refusal.specs.declared.Refusal.{Refusal}

-- text or data: the sections whose bytes the buffer takes
abbrev pub is_held_kind : SectionKind → Bool
is_held_kind k = is_one_of k (Text ∷ Data ∷ [])

-- the section with place k in the table, which is number k + 1
abbrev pub section_at : Summary → ℕ → Section
section_at y k = get_or y.sections k blank_section

abbrev pub number_at : ℕ → SectionNumber
number_at k = record { 0 = k + 1 }

-- a table that BOUNDS refuses has no entries
abbrev pub table_or : Result SectionTable Refusal → SectionTable
table_or (Ok t) = t
table_or (Err x) = record { start = record { 0 = 0 }; count = 0 }

abbrev pub held_part : Section → SectionNumber → SectionTable → ℕ → ℕ → ObjectSection
held_part s n t place first =
    record { number = n; address = s.vaddr; size = s.size; raw = s.scnptr; place = place; table = t.start; count = t.count; first = first }

abbrev pub empty_part : SectionNumber → ℕ → ℕ → ObjectSection
empty_part n place first =
    record { number = n; address = record { 0 = 0 }; size = 0; raw = record { 0 = 0 }; place = place; table = record { 0 = 0 }; count = 0; first = first }

-- the section with place k of an opened file of `len` bytes, with its bytes from `place` in the buffer and its entries numbered from `first`;
-- one that is neither text nor data gives no bytes and no entries
unfoldable pub part_at : ℕ → Summary → ℕ → ℕ → ℕ → ObjectSection
part_at len y k place first =
    cond (is_held_kind (section_at y k).kind) (held_part (section_at y k) (number_at k) (table_or (table_of Relocations y len (number_at k))) place first)
    (empty_part (number_at k) place first)

-- how many bytes the first k sections give the buffer, end to end, and how many entries they have
unfoldable pub bytes_before : ℕ → Summary → ℕ → ℕ
bytes_before len y zero = 0
bytes_before len y (suc k) = bytes_before len y k + (part_at len y k 0 0).size

unfoldable pub entries_before : ℕ → Summary → ℕ → ℕ
entries_before len y zero = 0
entries_before len y (suc k) = entries_before len y k + (part_at len y k 0 0).count

abbrev pub object_section : ℕ → Summary → ℕ → ObjectSection
object_section len y k = part_at len y k (bytes_before len y k) (entries_before len y k)
