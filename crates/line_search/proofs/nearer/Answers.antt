use borrow.Author.Tests.{lt-leb, le-leb}
use Rattle.line.specs.Search.{better}
use Rattle.line_search.proofs.nearer.Goals as goal

pub returns-then-address-own : goal.returns-then-address-own
unfolding better
returns-then-address-own c = rw (lt-leb _ _ c.if-address-own.true)

pub returns-then-is_below : goal.returns-then-is_below
unfolding better
returns-then-is_below c = rw (le-leb _ _ c.if-address-own.false, ← c.is_below.ensures, c.if-is_below.true)

pub returns : goal.returns
unfolding better
returns c = rw (le-leb _ _ c.if-address-own.false, ← c.is_below.ensures, c.if-is_below.false)
