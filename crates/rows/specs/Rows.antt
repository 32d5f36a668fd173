-- Rows of numbers, one for each element of a table, and the memory that they need.
use Rattle.std.specs.Prelude.{ℕ, zero, suc, not, List, [], ◌++◌, eqb}
use Rattle.refusal.specs.declared.Refusal.TheVariants.{Room}
use Rattle.refusal.specs.declared.RoomItem.TheVariants.{RowBuffer}
use Rattle.refusal.specs.Order.{refuse_if}
use Rattle.refusal.specs.Verdict.{Verdict}

-- the rows of the elements i, i + 1, .., n of them, one behind the other
unfoldable pub rows_of : (ℕ → List ℕ) → ℕ → ℕ → List ℕ
rows_of row i zero = []
rows_of row i (suc n) = row i ++ rows_of row (suc i) n

-- ROOM 0: the lent memory is not exactly as long as the rows
unfoldable pub room_check : ℕ → ℕ → Verdict
room_check given needed = refuse_if (not (eqb given needed)) (Room RowBuffer)
