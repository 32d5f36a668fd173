-- The row of a loader symbol: what the look-ups of it say, number by number.
use Rattle.std.specs.Prelude.{ℕ, ◌+◌, List, [], ◌∷◌}
use Rattle.refusal.specs.Part.{range_found}
use Rattle.loadable.specs.declared.Loadable.{Loadable}
use Rattle.lookup.specs.Symbol.{loader_symbol_report, loader_name_at}
use Rattle.module_table.specs.Table.{Table}

-- the loader symbol with place k in the table: its index, from 3, its numbers, and its name's offset and length
unfoldable pub loader_symbol_row : List ℕ → Loadable → ℕ → List ℕ
loader_symbol_row file l k =
    let s = loader_symbol_report file (k + 3) in
    let name = range_found (loader_name_at file (k + 3)) in
    (k + 3) ∷ s.value ∷ s.scnum ∷ s.smtype ∷ s.smclas ∷ s.ifile ∷ s.parm ∷ name.start.0 ∷ name.length ∷ []

abbrev pub loader_symbols : Table
loader_symbols = record { width = 9; count = λ l. l.tables.nsyms; row = loader_symbol_row }
