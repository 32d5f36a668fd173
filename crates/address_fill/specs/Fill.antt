-- What the places of a module's lists are for.
use Rattle.std.specs.Prelude.{cond, List, [], ◌∷◌, ℕ, zero, suc, ◌+◌, ◌*◌, ◌≤◌, eqb, length, Err, Ok, Result}
use Rattle.format.specs.declared.FileOffset.{FileOffset}
use Rattle.format.specs.declared.FileRange.{FileRange}
use Rattle.format.specs.declared.Format.{Format}
use Rattle.format.specs.Layout.{loader_symbol_length}
use Rattle.format.specs.Limit.{file_limit}
use Rattle.refusal.specs.Part.{range_bytes}
use Rattle.loader_symbol.specs.declared.LoaderEntry.{LoaderEntry}
use Rattle.loader_symbol.specs.Symbol.{entry_at, name_in, is_imported}
use Rattle.loadable.specs.declared.Loadable.{Loadable}
use Rattle.loadable.specs.Loadable.{loadable_at}
use Rattle.address_book.specs.Call.{Place, imported, other, Places}
use Rattle.refusal.specs.declared.Refusal.{Refusal}

-- an import that is not deferred by its file id, its name and its recorded value; every other symbol
unfoldable pub place_by : LoaderEntry → List ℕ → Place
place_by e name = cond (is_imported e.smtype) (cond (eqb e.ifile 0) other (imported e.ifile name e.value)) other

-- the loader symbol with place k of a table that starts at `symbols`
unfoldable pub place_in : List ℕ → Format → FileOffset → FileRange → ℕ → Place
place_in file f symbols strings k =
    let base = symbols.0 + k * loader_symbol_length in
    place_by (entry_at f base file) (range_bytes file (name_in file strings base (k + 3) (entry_at f base file).name))

unfoldable pub places_from : List ℕ → Format → FileOffset → FileRange → ℕ → ℕ → List Place
places_from file f symbols strings k zero = []
places_from file f symbols strings k (suc n) = place_in file f symbols strings k ∷ places_from file f symbols strings (suc k) n

unfoldable pub places_of : List ℕ → Loadable → List Place
places_of file l = places_from file l.layout.format l.tables.symbols l.tables.strings 0 l.tables.nsyms

unfoldable pub places_by : List ℕ → Result Loadable Refusal → Places
places_by file (Ok l) = record { verdict = Ok tt; places = places_of file l }
places_by file (Err x) = record { verdict = Err x; places = [] }

-- what a fill needs of any file
unfoldable pub places_at : List ℕ → Places
places_at file = places_by file (loadable_at file)

-- n loader symbols from `symbols` and the strings are in the file
pub record Inside (file : List ℕ) (symbols : FileOffset) (strings : FileRange) (n : ℕ) : Type 0 where
  pub small : length file ≤ file_limit
  pub table : symbols.0 + n * loader_symbol_length ≤ length file
  pub names : strings.start.0 + strings.length ≤ length file
