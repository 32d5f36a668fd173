-- The loader section of a module: its header and tables, then every loader symbol.
use Rattle.std.specs.Prelude.{ℕ, List, Err, Ok, Result}
use Rattle.refusal.specs.Order.{◌or_else◌, first_of, by_verdict}
use Rattle.module.specs.declared.Module.{Module}
use Rattle.loader_header.specs.declared.LoaderTables.{LoaderTables}
use Rattle.loader_header.specs.Header.{loader_header_at, tables_of, header_check}
use Rattle.loader_symbol.specs.Symbol.{symbol_check}
use Rattle.refusal.specs.declared.Refusal.{Refusal}
use Rattle.refusal.specs.Verdict.{Verdict}

-- where the tables of the module m lie
unfoldable pub tables_in : List ℕ → Module → LoaderTables
tables_in file m = tables_of m.format m.parts.loader.start.0 (loader_header_at m.format m.parts.loader.start.0 file)

-- the first LSYM
unfoldable pub symbols_check : List ℕ → Module → LoaderTables → Verdict
symbols_check file m t = first_of (symbol_check file m.format m.parts t) 0 t.nsyms

-- LOADER and LIMIT 2, 3; then LSYM
unfoldable pub loader_check : List ℕ → Module → Verdict
loader_check file m =
    header_check file m.format m.parts.loader.start.0 m.parts.loader.size or_else symbols_check file m (tables_in file m)

unfoldable pub loader_in : List ℕ → Module → Result LoaderTables Refusal
loader_in file m = by_verdict (loader_check file m) (Ok (tables_in file m)) Err
