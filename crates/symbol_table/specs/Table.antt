-- The symbol table listed whole: what is answered, and what the lent memory holds afterwards.
use Rattle.std.specs.Prelude.{ℕ, ◌*◌, List, [], ◌∷◌, ◌++◌, length, Err, Ok, Result}
use Rattle.format.specs.declared.SymbolIndex.{SymbolIndex}
use Rattle.refusal.specs.Order.{◌or_else◌, by_verdict, if_accepted}
use Rattle.header.specs.Open.{open_of}
use Rattle.symbol.specs.declared.Tables.{Tables}
use Rattle.symbol.specs.Entry.{tables_at}
use Rattle.walk.specs.Walk.{visited_in, walk_in}
use Rattle.rows.specs.Rows.{room_check}
use Rattle.symbol_table.specs.Row.{symbol_row}
use Rattle.refusal.specs.declared.Refusal.{Refusal}
use Rattle.walk.specs.declared.WalkEnd.{WalkEnd}
use Rattle.refusal.specs.Verdict.{Verdict}

-- the rows of these symbols, one behind the other
unfoldable pub rows_along : List ℕ → List SymbolIndex → List ℕ
rows_along file [] = []
rows_along file (i ∷ is) = symbol_row file i ++ rows_along file is

-- of those that the walk visits
abbrev pub rows_in : List ℕ → Tables → List ℕ
rows_in file t = rows_along file (visited_in file t)

unfoldable pub symbol_rows : List ℕ → List ℕ
symbol_rows file = if_accepted (open_of file).verdict (rows_in file (tables_at file)) []

-- ROOM 0: 15 numbers for each symbol that is visited
abbrev pub room_for : List ℕ → Tables → ℕ → Verdict
room_for file t given = room_check given (15 * length (visited_in file t))

-- opening's refusals come first
unfoldable pub table_check : List ℕ → ℕ → Verdict
table_check file given = (open_of file).verdict or_else room_for file (tables_at file) given

unfoldable pub symbol_table : List ℕ → ℕ → Result WalkEnd Refusal
symbol_table file given = by_verdict (table_check file given) (Ok (walk_in file (tables_at file))) Err

-- a refusal leaves what was there
unfoldable pub symbols_after : List ℕ → List ℕ → List ℕ
symbols_after file before = if_accepted (table_check file (length before)) (symbol_rows file) before
