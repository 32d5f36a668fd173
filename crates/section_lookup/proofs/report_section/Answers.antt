use Rattle.section_lookup.proofs.report_section.Goals as goal

pub returns-in-Err : goal.returns-in-Err
returns-in-Err c = rw (c.in-Err.is, c.refusal_head.ensures)

pub returns-in-Ok : goal.returns-in-Ok
returns-in-Ok c = rw (c.in-Ok.is, c.accepted_head.ensures, c.flags.ensures, c.one_if.ensures)
