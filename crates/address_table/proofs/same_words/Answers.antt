use Rattle.std.proofs.Common.{rules}
use Rattle.address_table.specs.Table.{key_words_at}
use Rattle.address_table.proofs.Match.{differs, last-decides}
use Rattle.address_table.proofs.same_words.Goals as goal

pub returns-then-table-at : goal.returns-then-table-at
unfolding key_words_at
returns-then-table-at c = let a = c.args in differs a.key (key_words_at a.table.now a.at) 0 c.if-table-at.true

pub returns-then-table-at-2 : goal.returns-then-table-at-2
unfolding key_words_at
returns-then-table-at-2 c = let a = c.args in differs a.key (key_words_at a.table.now a.at) 1 c.if-table-at-2.true

pub returns-then-table-at-3 : goal.returns-then-table-at-3
unfolding key_words_at
returns-then-table-at-3 c = let a = c.args in differs a.key (key_words_at a.table.now a.at) 2 c.if-table-at-3.true

pub returns-then-table-at-4 : goal.returns-then-table-at-4
unfolding key_words_at
returns-then-table-at-4 c = let a = c.args in differs a.key (key_words_at a.table.now a.at) 3 c.if-table-at-4.true

pub returns-then-table-at-5 : goal.returns-then-table-at-5
unfolding key_words_at
returns-then-table-at-5 c = let a = c.args in differs a.key (key_words_at a.table.now a.at) 4 c.if-table-at-5.true

pub returns-then-table-at-6 : goal.returns-then-table-at-6
unfolding key_words_at
returns-then-table-at-6 c = let a = c.args in differs a.key (key_words_at a.table.now a.at) 5 c.if-table-at-6.true

pub returns : goal.returns
returns c = let a = c.args in last-decides a.key a.table.now a.at (search rules) c.if-table-at.false c.if-table-at-2.false c.if-table-at-3.false c.if-table-at-4.false c.if-table-at-5.false c.if-table-at-6.false
