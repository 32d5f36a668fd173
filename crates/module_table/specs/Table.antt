-- A table of a module, listed whole: what is answered, and what the lent memory holds afterwards.
use Rattle.std.specs.Prelude.{ℕ, ◌*◌, List, [], length, Err, Ok, Result}
use Rattle.loadable.specs.declared.Loadable.{Loadable}
use Rattle.loadable.specs.Loadable.{loadable_at}
use Rattle.rows.specs.Rows.{rows_of, room_check}
use Rattle.refusal.specs.Order.{if_accepted}
use Rattle.refusal.specs.declared.Refusal.{Refusal}
use Rattle.refusal.specs.Verdict.{Verdict}

-- how many numbers a row has, how many rows there are, and the row of element i of the module in a file
pub record Table : Type 0 where
  pub width : ℕ
  pub count : Loadable → ℕ
  pub row : List ℕ → Loadable → ℕ → List ℕ

-- the module's refusals, then ROOM 0
unfoldable pub check_by : Table → Result Loadable Refusal → ℕ → Verdict
check_by t (Err x) given = Err x
check_by t (Ok l) given = room_check given (t.width * t.count l)

unfoldable pub table_check : Table → List ℕ → ℕ → Verdict
table_check t file given = check_by t (loadable_at file) given

-- the rows of every element
unfoldable pub rows_by : Table → List ℕ → Result Loadable Refusal → List ℕ
rows_by t file (Err x) = []
rows_by t file (Ok l) = rows_of (t.row file l) 0 (t.count l)

-- a refusal leaves what was there
unfoldable pub table_after : Table → List ℕ → List ℕ → List ℕ
table_after t file before = if_accepted (table_check t file (length before)) (rows_by t file (loadable_at file)) before
