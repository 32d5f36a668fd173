use borrow.Author.Tests.{le-ltb, lt-ltb}
use Rattle.lookup.specs.Symbol.{index_check}
use Rattle.lookup.proofs.check_index.Goals as goal

pub returns-then-i-lt3 : goal.returns-then-i-lt3
unfolding index_check
returns-then-i-lt3 c = rw (lt-ltb _ 3 c.if-i-lt3.true)

pub returns-then-i-t : goal.returns-then-i-t
unfolding index_check
returns-then-i-t c = rw (le-ltb _ 3 c.if-i-lt3.false, lt-ltb _ _ c.if-i-t.true)

pub returns : goal.returns
unfolding index_check
returns c = rw (le-ltb _ 3 c.if-i-lt3.false, le-ltb _ _ c.if-i-t.false)
