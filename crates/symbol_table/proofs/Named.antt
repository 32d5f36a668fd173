-- What the refusals of the table of symbols name is there, and its walk's own cause. Assumes nothing.
use Prim.Native.Nat.{ℕ, ◌*◌}
use mathlib.Core.Path.{◌≡◌, refl}
use mathlib.Core.Bool.{not}
use mathlib.Core.List.{List}
use lib.Dec.{eqb}
use lib.ListN.{length}
use Rattle.refusal.specs.declared.Refusal.TheVariants as refusal
use Rattle.refusal.specs.declared.RoomItem.TheVariants.{RowBuffer}
use Rattle.refusal.specs.Order.{by_verdict}
use Rattle.refusal.proofs.Order.{accepted-first}
use Rattle.refusal.proofs.Causes.{Causes, cause-if, cause-then}
use Rattle.offset.specs.Named.{Named}
use Rattle.offset.proofs.Named.{plain-named}
use Rattle.header.specs.Open.{open_of}
use Rattle.header.proofs.Named.{opened-named}
use Rattle.symbol.specs.Entry.{tables_at}
use Rattle.walk.specs.Walk.{visited_in, walk_in}
use Rattle.walk.proofs.Named.{WalkCauses, walk-in-named}
use Rattle.rows.specs.Rows.{room_check}
use Rattle.symbol_table.specs.Table.{table_check, symbol_table}
use Rattle.std.specs.Prelude.{Err, Ok}
use Rattle.refusal.specs.Verdict.{Verdict}

module _ (file : List ℕ) (given : ℕ) where
  check-named : Causes (Named file) (table_check file given)
  unfolding table_check room_check
  check-named =
      cause-then (Named file) (open_of file).verdict _ (opened-named file)
      (λ _. cause-if (Named file) (not (eqb given (15 * length (visited_in file (tables_at file))))) (refusal.Room RowBuffer) (λ _. plain-named file (refusal.Room RowBuffer) (λ s. refl) (λ _ e. e)))

  -- request 4: of the table of symbols
  pub symbol-table-named : WalkCauses (Named file) (symbol_table file given)
  unfolding symbol_table
  symbol-table-named = by (table_check file given) refl check-named
    where
      by : (v : Verdict) → table_check file given ≡ v → Causes (Named file) v → WalkCauses (Named file) (by_verdict v (Ok (walk_in file (tables_at file))) Err)
      by (Ok tt) e c = unfold table_check in walk-in-named file (accepted-first (open_of file).verdict _ e)
      by (Err x) e c = c
