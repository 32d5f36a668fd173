use Rattle.line.proofs.line_row.Goals as goal

pub returns-in-Function : goal.returns-in-Function
returns-in-Function c = rw c.in-Function.is

pub returns-in-Line : goal.returns-in-Line
returns-in-Line c = rw c.in-Line.is
