use Rattle.header.proofs.report_open.Goals as goal

pub returns : goal.returns
returns c = rw (c.report_head.ensures, c.bits_by.ensures)
