use mathlib.Core.Path.{◌≡◌, sym, ◌∙◌}
use native.Mathlib.Omega.{arith}
use Rattle.word.proofs.Test.{found}
use Rattle.address_table.specs.Table.{has_words}
use Rattle.address_table.proofs.Rows.{first-start, first-turn, first_found, first-end}
use Rattle.address_table.proofs.place_of.Goals as goal

pub loop-i-init : goal.loop-i-init
loop-i-init c = let a = c.args in first-start (has_words a.key a.table.now) a.n

pub returns-then-same_words : goal.returns-then-same_words
unfolding has_words
returns-then-same_words c = let a = c.args in sym (c.loop-i.invariant ∙ first_found (has_words a.key a.table.now) a.n c.loop-i.i c.loop-i-test.true (found c.same_words.ensures c.if-same_words.true))

pub loop-i-preserved : goal.loop-i-preserved
unfolding has_words
loop-i-preserved c = let a = c.args in c.loop-i.invariant ∙ first-turn (has_words a.key a.table.now) a.n c.loop-i.i c.loop-i-test.true (found c.same_words.ensures c.if-same_words.false)

pub returns : goal.returns
returns c = let a = c.args in let e : a.n ≡ c.loop-i.i = omega arith in e ∙ sym (c.loop-i.invariant ∙ first-end (has_words a.key a.table.now) a.n c.loop-i.i c.loop-i-test.false)
