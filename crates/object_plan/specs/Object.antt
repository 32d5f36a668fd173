-- What a file is to builds and moves as an object file: its verdict, its sections, the raw bytes of its text and data sections, and its entries.
use Rattle.std.specs.Prelude.{ℕ, zero, suc, List, [], ◌∷◌, ◌++◌, length, take, drop}
use Rattle.section_kind.specs.Kind.{is_placed_kind}
use Rattle.format.specs.Layout.{address_limit}
use Rattle.refusal.specs.Order.{if_accepted}
use Rattle.header.specs.declared.Summary.{Summary}
use Rattle.header.specs.Open.{open_of}
use Rattle.symbol.specs.declared.Tables.{Tables}
use Rattle.symbol.specs.Entry.{tables_of}
use Rattle.section_relocation.specs.declared.ObjectSection.{ObjectSection}
use Rattle.object_entry.specs.Entry.{object_entry}
use Rattle.object.specs.Sections.{section_at, object_section}
use Rattle.object.specs.Check.{object_check}
use Rattle.object_history.specs.declared.ObjectEntry.{ObjectEntry}
use Rattle.object_history.specs.Object.{Placed, Object}

-- entries i, i + 1, .., n of them, of a section's table
unfoldable pub entries_from : List ℕ → Tables → ObjectSection → ℕ → ℕ → List ObjectEntry
entries_from file t s i zero = []
entries_from file t s i (suc n) = object_entry file t s i ∷ entries_from file t s (suc i) n

abbrev pub table_entries : List ℕ → Tables → ObjectSection → List ObjectEntry
table_entries file t s = entries_from file t s 0 s.count

-- those of the sections with places k, k + 1, .., n of them: "numbered on from table to table"
unfoldable pub entries_in : List ℕ → Summary → ℕ → ℕ → List ObjectEntry
entries_in file y k zero = []
entries_in file y k (suc n) = table_entries file (tables_of file y) (object_section (length file) y k) ++ entries_in file y (suc k) n

-- the raw bytes of a section, and of these sections, "end to end in section order"
abbrev pub raw_of : List ℕ → ObjectSection → List ℕ
raw_of file s = take s.size (drop s.raw.0 file)

unfoldable pub raw_in : List ℕ → Summary → ℕ → ℕ → List ℕ
raw_in file y k zero = []
raw_in file y k (suc n) = raw_of file (object_section (length file) y k) ++ raw_in file y (suc k) n

-- the sections of a plan: text, data and bss have a place in it
abbrev pub placed_at : Summary → ℕ → Placed
placed_at y k = record { placed = is_placed_kind (section_at y k).kind; address = (section_at y k).vaddr.0; size = (section_at y k).size }

unfoldable pub placed_in : Summary → ℕ → ℕ → List Placed
placed_in y k zero = []
placed_in y k (suc n) = placed_at y k ∷ placed_in y (suc k) n

-- a file that is refused has no entries, and refuses every call
unfoldable pub object_of : List ℕ → Object
object_of file =
    let y = (open_of file).summary in
    record {
      verdict = object_check file;
      limit = address_limit y.format;
      sections = placed_in y 0 y.count;
      raw = raw_in file y 0 y.count;
      entries = if_accepted (object_check file) (entries_in file y 0 y.count) [];
    }
