use native.Mathlib.Numerals.{add-one}
use Rattle.line.specs.Search.{seen}
use Rattle.line_search.proofs.see.Goals as goal

pub returns-in-Function : goal.returns-in-Function
unfolding seen
returns-in-Function c = rw (c.in-Function.is, add-one)

pub returns-in-Line : goal.returns-in-Line
unfolding seen
returns-in-Line c = rw (c.in-Line.is, add-one, c.nearer.ensures, c.is_ungrouped.ensures)
