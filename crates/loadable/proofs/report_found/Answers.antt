use Rattle.loadable.proofs.report_found.Goals as goal

pub returns : goal.returns
returns c = rw (c.accepted_head.ensures, c.bits_of.ensures, c.report_part.ensures, c.report_part-2.ensures, c.report_part-3.ensures, c.report_anchor.ensures, c.report_anchor-2.ensures)
