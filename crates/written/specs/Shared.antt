-- SHARED: parts of the file that share a byte, so that one cannot be written without another.
use Rattle.std.specs.Prelude.{Bool, cond, ◌||◌, List, [], ◌∷◌, ℕ, ◌*◌, eqb, length}
use Rattle.format.specs.declared.FileRange.{FileRange}
use Rattle.format.specs.Layout.{symbol_length, loader_layout, loader_symbol_length, relocation_layout}
use Rattle.format.specs.Range.{range}
use Rattle.file_header.specs.Header.{section_start}
use Rattle.header.specs.declared.Summary.{Summary}
use Rattle.parts.specs.declared.Part.{Part}
use Rattle.module.specs.declared.Module.{Module}
use Rattle.loadable.specs.declared.Loadable.{Loadable}
use Rattle.shared_range.specs.Shared.{shares_two}

-- the header area: from the file's start up to the end of the section headers
abbrev pub header_range : Summary → FileRange
header_range y = range 0 (section_start y.format y.opthdr y.count)

-- the raw data of a section, or the loader section
abbrev pub part_range : Part → FileRange
part_range p = range p.start.0 p.size

abbrev pub symbols_range : Summary → FileRange
symbols_range y = range y.symbols.start.0 (y.symbols.count * symbol_length)

-- the string table's four length bytes count also where they are 0; there are none without symbols, and where the file ends
unfoldable pub strings_size : ℕ → Summary → ℕ
strings_size len y =
    cond (eqb y.symbols.count 0 || eqb y.symbols.strings.start.0 len) 0
    (cond (eqb y.symbols.strings.length 0) 4 y.symbols.strings.length)

abbrev pub strings_range : ℕ → Summary → FileRange
strings_range len y = range y.symbols.strings.start.0 (strings_size len y)

unfoldable pub file_ranges : List ℕ → Summary → Module → List FileRange
file_ranges file y m =
    header_range y ∷ part_range m.parts.text ∷ part_range m.parts.«data» ∷ part_range m.parts.loader ∷ symbols_range y ∷ strings_range (length file) y ∷ []

-- inside the loader section: its header, symbols, relocations, ids and strings
unfoldable pub loader_ranges : Loadable → List FileRange
loader_ranges l =
    let t = l.tables in
    range l.layout.parts.loader.start.0 (loader_layout l.layout.format).length
    ∷ range t.symbols.0 (t.nsyms * loader_symbol_length)
    ∷ range t.relocations.0 (t.nreloc * (relocation_layout l.layout.format).length)
    ∷ t.ids ∷ t.strings ∷ []

-- two parts of the file, or two of the loader section, share a byte
unfoldable pub is_shared : List ℕ → Summary → Loadable → Bool
is_shared file y l = shares_two (file_ranges file y l.layout) || shares_two (loader_ranges l)
