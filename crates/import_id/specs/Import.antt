-- An import id's three strings: the module's refusals, then INDEX.
use Rattle.std.specs.Prelude.{ℕ, zero, suc, ◌+◌, ◌*◌, not, List, ltb, drop, Err, Ok, Result}
use Rattle.word.specs.Zero.{first_zero}
use Rattle.format.specs.declared.FileRange.{FileRange}
use Rattle.format.specs.Range.{range, bytes_of}
use Rattle.refusal.specs.declared.Refusal.TheVariants.{Index}
use Rattle.refusal.specs.declared.IndexItem.TheVariants.{NoImportId}
use Rattle.refusal.specs.Order.{refuse_if, by_verdict}
use Rattle.loader_header.specs.declared.LoaderTables.{LoaderTables}
use Rattle.loadable.specs.Loadable.{loadable_at}
use Rattle.import_id.specs.declared.ImportString.{ImportString}
use Rattle.import_id.specs.declared.ImportString.TheVariants.{Path, Base, Member}
use Rattle.refusal.specs.declared.Refusal.{Refusal}
use Rattle.loadable.specs.declared.Loadable.{Loadable}
use Rattle.refusal.specs.Verdict.{Verdict}

-- INDEX: ids count from 0
unfoldable pub id_check : LoaderTables → ℕ → Verdict
id_check t n = refuse_if (not (ltb n t.nimpid)) (Index (NoImportId n))

-- where string j of zero-ended strings starts: behind the first j zeros
unfoldable pub string_start : List ℕ → ℕ → ℕ
string_start s zero = 0
string_start s (suc j) = string_start s j + first_zero (drop (string_start s j) s) + 1

-- string j of a table, without its zero
unfoldable pub string_of : List ℕ → FileRange → ℕ → FileRange
string_of file ids j =
    let at = string_start (bytes_of file ids) j in
    range (ids.start.0 + at) (first_zero (drop at (bytes_of file ids)))

-- an id's path, base name and archive member, in this order
abbrev pub place_of : ImportString → ℕ
place_of Path = 0
place_of Base = 1
place_of Member = 2

-- id n has strings 3n to 3n + 2
unfoldable pub import_in : List ℕ → Result Loadable Refusal → ℕ → ImportString → Result FileRange Refusal
import_in file (Err x) n w = Err x
import_in file (Ok l) n w = by_verdict (id_check l.tables n) (Ok (string_of file l.tables.ids (3 * n + place_of w))) Err

unfoldable pub import_at : List ℕ → ℕ → ImportString → Result FileRange Refusal
import_at file n w = import_in file (loadable_at file) n w
