-- SHARED: the symbol table shares a byte with the header area or a debug section.
use Rattle.std.specs.Prelude.{◌*◌, Bool, ◌∷◌}
use Rattle.format.specs.declared.FileRange.{FileRange}
use Rattle.format.specs.Layout.{symbol_length}
use Rattle.format.specs.Range.{range}
use Rattle.file_header.specs.Header.{section_start}
use Rattle.header.specs.declared.Summary.{Summary}
use Rattle.debug_section.specs.Debug.{debug_ranges}
use Rattle.shared_range.specs.Shared.{shares_one}

-- the symbol table: empty without symbols, and then nothing is shared
abbrev pub symbol_range : Summary → FileRange
symbol_range y = range y.symbols.start.0 (y.symbols.count * symbol_length)

-- file header, auxiliary header and section headers
abbrev pub header_area : Summary → FileRange
header_area y = range 0 (section_start y.format y.opthdr y.count)

-- any debug section with raw data, also where there are several
unfoldable pub is_shared : Summary → Bool
is_shared y = shares_one (symbol_range y) (header_area y ∷ debug_ranges y.sections y.count)
