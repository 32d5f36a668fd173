use Rattle.line.specs.Search.{is_below}
use Rattle.line_search.proofs.is_below.Goals as goal

pub returns-in-None : goal.returns-in-None
unfolding is_below
returns-in-None c = rw c.in-None.is

pub returns-in-Some : goal.returns-in-Some
unfolding is_below
returns-in-Some c = rw c.in-Some.is
