-- What an accepted loader section guarantees.
use Rattle.std.specs.Prelude.{ℕ, ◌+◌, ◌*◌, ◌≤◌, ◌<◌, ◌≡◌, List, length, Ok}
use Rattle.word.specs.Zero.{zeros_in}
use Rattle.format.specs.Layout.{relocation_layout}
use Rattle.format.specs.Limit.{relocation_limit}
use Rattle.format.specs.Range.{bytes_of}
use Rattle.module.specs.declared.Module.{Module}
use Rattle.loader_header.specs.declared.LoaderTables.{LoaderTables}
use Rattle.loader_symbol.specs.Symbol.{symbol_check, TablesInside}

pub record LoaderInside (file : List ℕ) (m : Module) (t : LoaderTables) : Type 0 where
  pub tables : TablesInside file t
  pub few : t.nreloc ≤ relocation_limit
  pub relocations : t.relocations.0 + t.nreloc * (relocation_layout m.format).length ≤ length file
  pub ids : 3 * t.nimpid ≤ zeros_in (bytes_of file t.ids)
  pub symbols : (k : ℕ) → k < t.nsyms → symbol_check file m.format m.parts t k ≡ Ok tt
