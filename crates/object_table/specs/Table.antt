-- The sections of an object file and the entries of one, listed whole: what is answered, and what the lent memory holds afterwards.
use Rattle.std.specs.Prelude.{ℕ, ◌-◌, ◌*◌, not, List, [], ◌∷◌, length}
use Rattle.format.specs.declared.Format.{Format}
use Rattle.format.specs.declared.SectionNumber.{SectionNumber}
use Rattle.refusal.specs.declared.IndexItem.TheVariants.{NoSection}
use Rattle.refusal.specs.declared.Refusal.TheVariants.{Index}
use Rattle.refusal.specs.Order.{◌or_else◌, refuse_if, if_accepted}
use Rattle.header.specs.declared.Summary.{Summary}
use Rattle.header.specs.Open.{open_of}
use Rattle.section_lookup.specs.Lookup.{number_check}
use Rattle.field_kind.specs.declared.FieldKind.{FieldKind}
use Rattle.field_kind.specs.declared.FieldKind.TheVariants.{Nothing, Four, Eight, Branch}
use Rattle.field_kind.specs.declared.ObjectField.{ObjectField}
use Rattle.section_relocation.specs.declared.ObjectSection.{ObjectSection}
use Rattle.section_relocation.specs.declared.SectionEntry.{SectionEntry}
use Rattle.section_relocation.specs.Entry.{entry_in, field_in}
use Rattle.object.specs.Sections.{is_held_kind, section_at, object_section}
use Rattle.object.specs.Check.{object_check}
use Rattle.rows.specs.Rows.{rows_of, room_check}
use Rattle.refusal.specs.Verdict.{Verdict}

-- ---- the sections

-- the place in the buffer, the size there, where the relocation table starts in the file, its entries, the number of the first
abbrev pub part_row : ObjectSection → List ℕ
part_row s = s.place ∷ s.size ∷ s.table.0 ∷ s.count ∷ s.first ∷ []

-- of the section with place k in the table
abbrev pub section_row : ℕ → Summary → ℕ → List ℕ
section_row len y k = part_row (object_section len y k)

abbrev pub section_rows : ℕ → Summary → List ℕ
section_rows len y = rows_of (section_row len y) 0 y.count

-- the object's refusals, then ROOM 0: 5 numbers for each section
unfoldable pub section_rows_check : List ℕ → ℕ → Verdict
section_rows_check file given = object_check file or_else room_check given (5 * (open_of file).summary.count)

-- a refusal leaves what was there
unfoldable pub section_rows_after : List ℕ → List ℕ → List ℕ
section_rows_after file before = if_accepted (section_rows_check file (length before)) (section_rows (length file) (open_of file).summary) before

-- ---- the entries of a section

-- how many bits an entry changes
abbrev pub bits_in : FieldKind → ℕ
bits_in Nothing = 0
bits_in Four = 32
bits_in Eight = 64
bits_in Branch = 26

-- an entry as it stands, how many bits it changes, and where its field is in the buffer
abbrev pub field_row : SectionEntry → ObjectField → List ℕ
field_row e g = e.address.0 ∷ e.symbol.0 ∷ e.rsize ∷ e.rtype ∷ bits_in g.kind ∷ g.offset ∷ []

-- of entry i of a section's table
abbrev pub entry_row : List ℕ → Format → ObjectSection → ℕ → List ℕ
entry_row file f s i = field_row (entry_in file f s i) (field_in file f s i)

abbrev pub entry_rows : List ℕ → Format → ObjectSection → List ℕ
entry_rows file f s = rows_of (entry_row file f s) 0 s.count

-- INDEX: no such text or data section
unfoldable pub held_check : Summary → SectionNumber → Verdict
held_check y n = number_check y.count n or_else refuse_if (not (is_held_kind (section_at y (n.0 - 1)).kind)) (Index (NoSection n))

-- section n of an opened file of `len` bytes
abbrev pub part_of : ℕ → Summary → SectionNumber → ObjectSection
part_of len y n = object_section len y (n.0 - 1)

-- INDEX, then ROOM 0: 6 numbers for each entry
abbrev pub entries_check_in : ℕ → Summary → SectionNumber → ℕ → Verdict
entries_check_in len y n given = held_check y n or_else room_check given (6 * (part_of len y n).count)

-- after the object's refusals
unfoldable pub entry_rows_check : List ℕ → SectionNumber → ℕ → Verdict
entry_rows_check file n given = object_check file or_else entries_check_in (length file) (open_of file).summary n given

-- a refusal leaves what was there
unfoldable pub entry_rows_after : List ℕ → SectionNumber → List ℕ → List ℕ
entry_rows_after file n before =
    let y = (open_of file).summary in
    if_accepted (entry_rows_check file n (length before)) (entry_rows file y.format (part_of (length file) y n)) before
