-- What the refusals of a module's tables name is there. Assumes nothing.
use Prim.Native.Nat.{ℕ, ◌*◌}
use mathlib.Core.Path.{refl}
use mathlib.Core.Bool.{not}
use mathlib.Core.List.{List}
use lib.Dec.{eqb}
use Rattle.refusal.specs.declared.Refusal.TheVariants as refusal
use Rattle.refusal.specs.declared.RoomItem.TheVariants.{RowBuffer}
use Rattle.refusal.proofs.Causes.{Causes, cause-if}
use Rattle.offset.specs.Named.{Named}
use Rattle.offset.proofs.Named.{plain-named}
use Rattle.loadable.specs.Loadable.{loadable_at}
use Rattle.loadable.proofs.Named.{LoadableCauses, loadable-named}
use Rattle.rows.specs.Rows.{room_check}
use Rattle.module_table.specs.Table.{Table, check_by, table_check}
use Rattle.std.specs.Prelude.{Err, Ok, Result}
use Rattle.refusal.specs.declared.Refusal.{Refusal}
use Rattle.loadable.specs.declared.Loadable.{Loadable}

-- request 4: of each table of a module
pub table-named : (t : Table) (file : List ℕ) (given : ℕ) → Causes (Named file) (table_check t file given)
unfolding table_check check_by room_check
table-named t file given = by (loadable_at file) (loadable-named file)
  where
    by : (a : Result Loadable Refusal) → LoadableCauses (Named file) a → Causes (Named file) (check_by t a given)
    by (Err x) c = c
    by (Ok l) c = cause-if (Named file) (not (eqb given (t.width * t.count l))) (refusal.Room RowBuffer) (λ _. plain-named file (refusal.Room RowBuffer) (λ s. refl) (λ _ e. e))
