use native.Mathlib.Omega.{arith}
use lib.ListN.{length}
use Rattle.address_fill.specs.Fill.{places_at}
use Rattle.table_replay.proofs.Ends.{call-inside}
use Rattle.table_replay.proofs.Made.{made_row, made-fill}
use Rattle.table_replay.proofs.call_at.Goals as goal

pub returns-then-number_at-lt3-clause-answer : goal.returns-then-number_at-lt3-clause-answer
returns-then-number_at-lt3-clause-answer c = let a = c.args in let made = made_row (places_at a.file.now) (length a.list.now) a.s.now a.at a.table.now a.list.now (rw c.number_at.ensures at c.if-number_at-lt3.true) (c.call_row_at.ensures.answer, c.call_row_at.ensures.table) in made.0

pub returns-then-number_at-lt3-clause-table : goal.returns-then-number_at-lt3-clause-table
returns-then-number_at-lt3-clause-table c = let a = c.args in let made = made_row (places_at a.file.now) (length a.list.now) a.s.now a.at a.table.now a.list.now (rw c.number_at.ensures at c.if-number_at-lt3.true) (c.call_row_at.ensures.answer, c.call_row_at.ensures.table) in made.1.0

pub returns-then-number_at-lt3-clause-list : goal.returns-then-number_at-lt3-clause-list
returns-then-number_at-lt3-clause-list c = let a = c.args in let made = made_row (places_at a.file.now) (length a.list.now) a.s.now a.at a.table.now a.list.now (rw c.number_at.ensures at c.if-number_at-lt3.true) (c.call_row_at.ensures.answer, c.call_row_at.ensures.table) in made.1.1

pub overflow_add-at : goal.overflow_add-at
overflow_add-at c = omega (arith, call-inside c.args.s.now c.args.at c.requires)

pub returns-clause-answer : goal.returns-clause-answer
returns-clause-answer c = let a = c.args in let fills = c.table_fill.ensures in let made = made-fill (places_at a.file.now) (length a.list.now) a.s.now a.at a.table.now a.list.now (rw c.number_at.ensures at c.if-number_at-lt3.false) c.number_at-bench.ensures fills.cause c.number_of.ensures fills.list in made.0

pub returns-clause-table : goal.returns-clause-table
returns-clause-table c = let a = c.args in let fills = c.table_fill.ensures in let made = made-fill (places_at a.file.now) (length a.list.now) a.s.now a.at a.table.now a.list.now (rw c.number_at.ensures at c.if-number_at-lt3.false) c.number_at-bench.ensures fills.cause c.number_of.ensures fills.list in made.1.0

pub returns-clause-list : goal.returns-clause-list
returns-clause-list c = let a = c.args in let fills = c.table_fill.ensures in let made = made-fill (places_at a.file.now) (length a.list.now) a.s.now a.at a.table.now a.list.now (rw c.number_at.ensures at c.if-number_at-lt3.false) c.number_at-bench.ensures fills.cause c.number_of.ensures fills.list in made.1.1
