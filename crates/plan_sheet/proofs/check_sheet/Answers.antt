use lib.ListN.{length}
use mathlib.Core.Path.{◌≡◌}
use borrow.Author.Tests.{eq-eqb, le-ltb, lt-ltb, ne_eqb}
use native.Mathlib.Omega.{arith}
use Rattle.sheet.specs.Sheet.{head_length, sheet_check}
use Rattle.plan_sheet.proofs.check_sheet.Goals as goal

pub returns-then-sheet-head_length : goal.returns-then-sheet-head_length
unfolding sheet_check
returns-then-sheet-head_length c = let a = c.args in rw (lt-ltb (length a.sheet.now) (head_length a.f) (omega arith))

pub returns-then-read_count-ne2 : goal.returns-then-read_count-ne2
unfolding sheet_check
returns-then-read_count-ne2 c = let a = c.args in rw (le-ltb (length a.sheet.now) (head_length a.f) (omega arith), ← c.read_count.ensures, ne_eqb c.read_count.result 2 (λ e. omega arith))

pub returns-then-list_limit-head : goal.returns-then-list_limit-head
unfolding sheet_check
returns-then-list_limit-head c = let a = c.args in let two : c.read_count.result ≡ 2 = omega arith in rw (le-ltb (length a.sheet.now) (head_length a.f) (omega arith), ← c.read_count.ensures, two, ← c.read_head-head.ensures, ← c.list_limit.ensures, lt-ltb _ _ c.if-list_limit-head.true)

pub returns-then-sheet-sheet_length : goal.returns-then-sheet-sheet_length
unfolding sheet_check
returns-then-sheet-sheet_length c = let a = c.args in let two : c.read_count.result ≡ 2 = omega arith in rw (le-ltb (length a.sheet.now) (head_length a.f) (omega arith), ← c.read_count.ensures, two, ← c.read_head-head.ensures, ← c.list_limit.ensures, le-ltb _ _ c.if-list_limit-head.false, ← c.sheet_length.ensures, ne_eqb _ _ c.if-sheet-sheet_length.true)

pub returns : goal.returns
unfolding sheet_check
returns c = let a = c.args in let two : c.read_count.result ≡ 2 = omega arith in rw (le-ltb (length a.sheet.now) (head_length a.f) (omega arith), ← c.read_count.ensures, two, ← c.read_head-head.ensures, ← c.list_limit.ensures, le-ltb _ _ c.if-list_limit-head.false, ← c.sheet_length.ensures, eq-eqb _ _ c.if-sheet-sheet_length.false)
