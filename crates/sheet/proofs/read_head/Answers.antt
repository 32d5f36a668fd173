use Rattle.sheet.specs.Sheet.{head_of}
use Rattle.sheet.proofs.read_head.Goals as goal

pub returns : goal.returns
unfolding head_of
returns c = rw (c.read_count.ensures, c.get64-2.ensures, c.get64.ensures, c.count_width-w.ensures)
