use borrow.Author.Tests.{eq-eqb, le-ltb, lt-ltb, ne_eqb}
use native.Mathlib.Omega.{arith}
use Rattle.sheet.specs.Sheet.{write_check}
use Rattle.sheet.proofs.check_write.Goals as goal

pub returns-then-count-gt-SHEET_LIST_LIMIT : goal.returns-then-count-gt-SHEET_LIST_LIMIT
unfolding write_check
returns-then-count-gt-SHEET_LIST_LIMIT c = rw (lt-ltb _ _ c.if-count-gt-SHEET_LIST_LIMIT.true)

pub returns-then-room-sheet_length : goal.returns-then-room-sheet_length
unfolding write_check
returns-then-room-sheet_length c = let room = c.args.room in rw (le-ltb _ _ c.if-count-gt-SHEET_LIST_LIMIT.false, ← c.sheet_length.ensures, ne_eqb room c.sheet_length.result (λ e. omega arith))

pub returns : goal.returns
unfolding write_check
returns c = let room = c.args.room in rw (le-ltb _ _ c.if-count-gt-SHEET_LIST_LIMIT.false, ← c.sheet_length.ensures, eq-eqb room c.sheet_length.result (omega arith))
