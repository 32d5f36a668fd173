use mathlib.Core.Path.{refl}
use borrow.Author.Tests.{eq-eqb, ne_eqb}
use Rattle.address_table.specs.Table.{book_of}
use Rattle.address_fill.proofs.Laws.{filled-module}
use Rattle.address_fill.proofs.fill_module.Goals as goal

pub returns-then-list-t-clause-answer : goal.returns-then-list-t-clause-answer
returns-then-list-t-clause-answer c = rw (ne_eqb _ _ c.if-list-t.true) refl

pub returns-then-list-t-clause-list : goal.returns-then-list-t-clause-list
returns-then-list-t-clause-list c = refl

pub returns-clause-answer : goal.returns-clause-answer
returns-clause-answer c = let a = c.args in rw (eq-eqb _ _ c.if-list-t.false) refl

pub returns-clause-list : goal.returns-clause-list
returns-clause-list c = let a = c.args in filled-module (book_of a.table.now) a.bench a.file.now a.l a.list.now c.if-list-t.false c.fill_list.ensures
