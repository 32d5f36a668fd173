-- The row of a symbol: what the look-ups of its index say, number by number.
use Rattle.std.specs.Prelude.{ℕ, List, [], ◌∷◌, Err, Ok, Result}
use Rattle.format.specs.declared.FileRange.{FileRange}
use Rattle.format.specs.declared.SymbolIndex.{SymbolIndex}
use Rattle.format.specs.Range.{range}
use Rattle.symbol.specs.Entry.{tables_at, entry_of}
use Rattle.symbol.specs.Name.{room_in}
use Rattle.symbol_lookup.specs.Lookup.{symbol_report}
use Rattle.csect_lookup.specs.Lookup.{csect_report}
use Rattle.refusal.specs.declared.Refusal.{Refusal}

-- the bytes that the name of the symbol at index i of an accepted file may take: it ends at the first zero in them
abbrev pub range_of : Result FileRange Refusal → FileRange
range_of (Ok r) = r
range_of (Err x) = range 0 0

unfoldable pub symbol_room : List ℕ → SymbolIndex → FileRange
symbol_room file i = range_of (room_in file (tables_at file) i (entry_of file (tables_at file) i))

-- its index, its numbers, its name's start and room; the number of its csect entry's refusal or 0, and that entry's numbers
unfoldable pub symbol_row : List ℕ → SymbolIndex → List ℕ
symbol_row file i =
    let s = symbol_report file i in
    let name = symbol_room file i in
    let c = csect_report file i in
    i.0 ∷ s.value ∷ s.scnum ∷ s.ntype ∷ s.sclass ∷ s.numaux ∷ s.has_visibility ∷ s.visibility ∷ name.start.0 ∷ name.length ∷ c.head.number ∷ c.kind ∷ c.align ∷ c.smclas ∷ c.length ∷ []
