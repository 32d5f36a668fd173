-- Line number entries: what stands at a place of the file, by format.
use Rattle.std.specs.Prelude.{ℕ, ◌+◌, ◌*◌, cond, List, [], ◌∷◌, eqb}
use Rattle.word.specs.Number.{field, field_in}
use Rattle.word.specs.declared.Width.TheVariants.{Two, Four, Eight}
use Rattle.format.specs.declared.Format.{Format}
use Rattle.format.specs.declared.Format.TheVariants.{Xcoff32, Xcoff64}
use Rattle.table_kind.specs.declared.TableKind.TheVariants.{Lines}
use Rattle.table_kind.specs.Kind.{entry_length}
use Rattle.line.specs.declared.LineLayout.{LineLayout}
use Rattle.line.specs.declared.LineEntry.{LineEntry}
use Rattle.line.specs.declared.LineEntry.TheVariants.{Function, Line}

-- the value is an address, or where the line is 0 a symbol index, of 4 bytes in both formats
abbrev pub line_layout : Format → LineLayout
line_layout Xcoff32 = record { symbol = field 0 Four; address = field 0 Four; line = field 4 Two }
line_layout Xcoff64 = record { symbol = field 0 Four; address = field 0 Eight; line = field 8 Four }

abbrev pub line_length : Format → ℕ
line_length f = entry_length Lines f

-- the entry at a place
unfoldable pub entry_at : List ℕ → ℕ → Format → LineEntry
entry_at file at f =
    cond (eqb (field_in (line_layout f).line at file) 0)
    (Function (record { 0 = field_in (line_layout f).symbol at file }))
    (Line (record { address = record { 0 = field_in (line_layout f).address at file }; line = field_in (line_layout f).line at file }))

-- entry i, from 0, of the table at start
abbrev pub entry_of : List ℕ → ℕ → Format → ℕ → LineEntry
entry_of file start f i = entry_at file (start + i * line_length f) f

-- the row of an entry: whether it opens a function's group, its symbol index or address, its line
abbrev pub line_row : LineEntry → List ℕ
line_row (Function k) = 1 ∷ k.0 ∷ 0 ∷ []
line_row (Line m) = 0 ∷ m.address.0 ∷ m.line ∷ []
