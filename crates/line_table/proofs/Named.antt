-- What the refusals of a listed line table name is there. Assumes nothing.
use Prim.Native.Nat.{ℕ, ◌*◌}
use mathlib.Core.Path.{refl}
use mathlib.Core.Bool.{not}
use mathlib.Core.List.{List}
use lib.Dec.{eqb}
use Rattle.format.specs.declared.SectionNumber.{SectionNumber}
use Rattle.refusal.specs.declared.Refusal.TheVariants as refusal
use Rattle.refusal.specs.declared.RoomItem.TheVariants.{RowBuffer}
use Rattle.refusal.proofs.Causes.{Causes, cause-if}
use Rattle.offset.specs.Named.{Named}
use Rattle.offset.proofs.Named.{plain-named}
use Rattle.line_lookup.specs.Lookup.{line_table_at}
use Rattle.line_lookup.proofs.Named.{LineTableCauses, line-table-named}
use Rattle.rows.specs.Rows.{room_check}
use Rattle.line_table.specs.Table.{check_by, line_table_check}
use Rattle.std.specs.Prelude.{Err, Ok, Result}
use Rattle.refusal.specs.declared.Refusal.{Refusal}
use Rattle.line_lookup.specs.declared.LineTable.{LineTable}

-- request 4: of a line table listed whole
pub line-rows-named : (file : List ℕ) (n : SectionNumber) (given : ℕ) → Causes (Named file) (line_table_check file n given)
unfolding line_table_check check_by room_check
line-rows-named file n given = by (line_table_at file n) (line-table-named file n)
  where
    by : (a : Result LineTable Refusal) → LineTableCauses (Named file) a → Causes (Named file) (check_by a given)
    by (Ok t) c = cause-if (Named file) (not (eqb given (3 * t.count))) (refusal.Room RowBuffer) (λ _. plain-named file (refusal.Room RowBuffer) (λ s. refl) (λ _ e. e))
    by (Err x) c = c
