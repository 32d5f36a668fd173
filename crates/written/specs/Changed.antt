-- The bytes that writing a module back may change. Every other stays.
use Rattle.std.specs.Prelude.{◌≡◌, true, List, ℕ, ◌+◌, ◌<◌}
use Rattle.word.specs.declared.Field.{Field}
use Rattle.word.specs.Number.{bytes_in}
use Rattle.format.specs.declared.FileRange.{FileRange}
use Rattle.format.specs.Layout.{header_layout, section_layout, aux_layout, symbol_layout, relocation_layout}
use Rattle.format.specs.Range.{range}
use Rattle.file_header.specs.Header.{section_start}
use Rattle.header.specs.declared.Summary.{Summary}
use Rattle.parts.specs.Sections.{flag_at}
use Rattle.loader_symbol.specs.Symbol as symbol
use Rattle.relocation.specs.Relocation as relocation
use Rattle.loadable.specs.declared.Loadable.{Loadable}
use Rattle.plan.specs.Relocatable.{followed_at}
use Rattle.shared_range.specs.Shared.{Holds}
use Rattle.written.specs.Written.{moves, flag_follows, anchor_follows}
use Rattle.written.specs.Shared.{part_range}

-- the bytes of the field a of what starts at base
abbrev pub field_range : Field → ℕ → FileRange
field_range a base = range (base + a.offset) (bytes_in a.width)

-- byte k is in the raw text, in the raw data, or in an address that moves
pub data Changed (file : List ℕ) (y : Summary) (l : Loadable) (k : ℕ) : Type 0 where
  raw_text : Holds (part_range l.layout.parts.text) k → Changed file y l k
  raw_data : Holds (part_range l.layout.parts.«data») k → Changed file y l k
  text_start : Holds (field_range (aux_layout l.layout.format).tstart (header_layout l.layout.format).length) k → Changed file y l k
  data_start : Holds (field_range (aux_layout l.layout.format).dstart (header_layout l.layout.format).length) k → Changed file y l k
  entry : moves (anchor_follows l.layout.parts l.layout.entry) ≡ true → Holds (field_range (aux_layout l.layout.format).entry (header_layout l.layout.format).length) k → Changed file y l k
  toc : moves (anchor_follows l.layout.parts l.layout.toc) ≡ true → Holds (field_range (aux_layout l.layout.format).toc (header_layout l.layout.format).length) k → Changed file y l k
  paddr : (i : ℕ) → i < y.count → moves (flag_follows (flag_at y.sections i)) ≡ true → Holds (field_range (section_layout y.format).paddr (section_start y.format y.opthdr i)) k → Changed file y l k
  vaddr : (i : ℕ) → i < y.count → moves (flag_follows (flag_at y.sections i)) ≡ true → Holds (field_range (section_layout y.format).vaddr (section_start y.format y.opthdr i)) k → Changed file y l k
  value : (j : ℕ) → j < l.tables.nsyms → moves (followed_at file l j) ≡ true → Holds (field_range (symbol_layout l.layout.format).value (symbol.entry_start l.tables j)) k → Changed file y l k
  address : (i : ℕ) → i < l.tables.nreloc → Holds (field_range (relocation_layout l.layout.format).address (relocation.entry_start l.layout.format l.tables i)) k → Changed file y l k
