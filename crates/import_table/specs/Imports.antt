-- The rows of import ids: what the look-ups of one id say, number by number.
use Rattle.std.specs.Prelude.{ℕ, ◌≤◌, ◌+◌, List, [], ◌∷◌, length}
use Rattle.word.specs.Zero.{zeros_in}
use Rattle.format.specs.declared.FileRange.{FileRange}
use Rattle.format.specs.Limit.{file_limit}
use Rattle.format.specs.Range.{bytes_of}
use Rattle.refusal.specs.Part.{range_found}
use Rattle.loadable.specs.declared.Loadable.{Loadable}
use Rattle.import_id.specs.declared.ImportString.TheVariants.{Path, Base, Member}
use Rattle.import_id.specs.Import.{string_of, import_at}
use Rattle.module_table.specs.Table.{Table}

-- import id n: offset and length of its path, base name and archive member
unfoldable pub import_row : List ℕ → Loadable → ℕ → List ℕ
import_row file l n =
    let path = range_found (import_at file n Path) in
    let base = range_found (import_at file n Base) in
    let member = range_found (import_at file n Member) in
    path.start.0 ∷ path.length ∷ base.start.0 ∷ base.length ∷ member.start.0 ∷ member.length ∷ []

abbrev pub imports : Table
imports = record { width = 6; count = λ l. l.tables.nimpid; row = import_row }

-- the same, string by string: where string j of the id table starts, and its length
unfoldable pub string_row : List ℕ → FileRange → ℕ → List ℕ
string_row file ids j = (string_of file ids j).start.0 ∷ (string_of file ids j).length ∷ []

-- an id table inside the file, with its first n strings
pub record StringsThere (file : List ℕ) (ids : FileRange) (n : ℕ) : Type 0 where
  pub small : length file ≤ file_limit
  pub inside : ids.start.0 + ids.length ≤ length file
  pub enough : n ≤ zeros_in (bytes_of file ids)
