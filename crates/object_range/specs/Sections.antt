-- RANGE of an object file's entries, section by section.
use Rattle.std.specs.Prelude.{ℕ, ◌+◌, ◌≤◌, ◌<◌, List, length}
use Rattle.refusal.specs.declared.Refusal.TheVariants.{Range}
use Rattle.refusal.specs.Order.{refuse_if, first_of}
use Rattle.book.specs.Machine.{Shifts}
use Rattle.header.specs.declared.Summary.{Summary}
use Rattle.symbol.specs.declared.Tables.{Tables}
use Rattle.symbol.specs.Entry.{tables_of}
use Rattle.section_relocation.specs.declared.ObjectSection.{ObjectSection}
use Rattle.section_relocation.specs.Entry.{name_of}
use Rattle.object_entry.specs.Entry.{object_entry}
use Rattle.object.specs.Sections.{object_section}
use Rattle.branch_range.specs.Range.{is_out, word_from}
use Rattle.object_range.specs.declared.Source.{Source}
use Rattle.object_range.specs.declared.Source.TheVariants.{RawData, Buffer}
use Rattle.refusal.specs.Verdict.{Verdict}

-- where the bytes of a section start in those that its branches are read from
abbrev pub origin_of : Source → ObjectSection → ℕ
origin_of RawData p = p.raw.0
origin_of Buffer p = p.place

-- entry i of a section, and the first of its entries that is refused
unfoldable pub out_at : List ℕ → Tables → ObjectSection → Shifts → (ℕ → ℕ) → ℕ → Verdict
out_at file t p s word i = refuse_if (is_out (object_entry file t p) p.count s word i) (Range (name_of p i))

unfoldable pub part_range : List ℕ → Tables → ObjectSection → Shifts → (ℕ → ℕ) → Verdict
part_range file t p s word = first_of (out_at file t p s word) 0 p.count

-- of the section with place k, and of all
unfoldable pub section_range : List ℕ → Summary → Shifts → Source → List ℕ → ℕ → Verdict
section_range file y s source bytes k =
    let p = object_section (length file) y k in
    part_range file (tables_of file y) p s (word_from bytes (origin_of source p) p)

unfoldable pub sections_range : List ℕ → Summary → Shifts → Source → List ℕ → Verdict
sections_range file y s source bytes = first_of (section_range file y s source bytes) 0 y.count

-- the bytes hold each section
pub record Covers (file : List ℕ) (y : Summary) (source : Source) (bytes : List ℕ) : Type 0 where
  pub holds : (k : ℕ) → k < y.count → 0 < (object_section (length file) y k).size
      → origin_of source (object_section (length file) y k) + (object_section (length file) y k).size ≤ length bytes
