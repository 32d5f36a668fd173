-- A line table listed whole: what is answered, and what the lent memory holds afterwards.
use Rattle.std.specs.Prelude.{ℕ, ◌*◌, List, [], length, Err, Ok, Result}
use Rattle.format.specs.declared.SectionNumber.{SectionNumber}
use Rattle.refusal.specs.Order.{if_accepted}
use Rattle.line.specs.Line.{line_row}
use Rattle.line.specs.Search.{Entries}
use Rattle.line_lookup.specs.Lookup.{line_table_at, entries_in}
use Rattle.rows.specs.Rows.{rows_of, room_check}
use Rattle.refusal.specs.declared.Refusal.{Refusal}
use Rattle.line_lookup.specs.declared.LineTable.{LineTable}
use Rattle.refusal.specs.Verdict.{Verdict}

-- the row of entry i
abbrev pub entry_row : Entries → ℕ → List ℕ
entry_row e i = line_row (e i)

-- the refusals of the table, then ROOM 0: 3 numbers for each entry
unfoldable pub check_by : Result LineTable Refusal → ℕ → Verdict
check_by (Ok t) given = room_check given (3 * t.count)
check_by (Err x) given = Err x

unfoldable pub line_table_check : List ℕ → SectionNumber → ℕ → Verdict
line_table_check file n given = check_by (line_table_at file n) given

-- the rows of every entry
unfoldable pub rows_by : List ℕ → Result LineTable Refusal → List ℕ
rows_by file (Ok t) = rows_of (entry_row (entries_in file t)) 0 t.count
rows_by file (Err x) = []

-- a refusal leaves what was there
unfoldable pub lines_after : List ℕ → SectionNumber → List ℕ → List ℕ
lines_after file n before = if_accepted (line_table_check file n (length before)) (rows_by file (line_table_at file n)) before
