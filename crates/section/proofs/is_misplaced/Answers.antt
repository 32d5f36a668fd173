use borrow.Author.Tests.{eq-eqb, ne_eqb}
use Rattle.word.proofs.Test.{found}
use Rattle.section.specs.Section.{misplaced}
use Rattle.section.proofs.is_misplaced.Goals as goal

pub returns-then-v-p : goal.returns-then-v-p
unfolding misplaced
returns-then-v-p c = rw (found c.is_placed.ensures c.if-is_placed.true, ne_eqb _ _ c.if-v-p.true)

pub returns-then-is_placed : goal.returns-then-is_placed
unfolding misplaced
returns-then-is_placed c = rw (found c.is_placed.ensures c.if-is_placed.true, eq-eqb _ _ c.if-v-p.false, ← c.last_address-last.ensures) c.ends_past_last.ensures

pub returns : goal.returns
unfolding misplaced
returns c = rw (found c.is_placed.ensures c.if-is_placed.false)
