use Rattle.offset.proofs.report_range.Goals as goal

pub returns : goal.returns
returns c = rw (c.range_head-head.ensures, c.range_found-p.ensures)
