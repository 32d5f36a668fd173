use Rattle.image.proofs.report_call.Goals as goal

pub returns-in-Ok : goal.returns-in-Ok
returns-in-Ok c = rw (c.in-Ok.is, c.accepted_head.ensures, c.is_present.ensures, c.address_of.ensures, c.is_present-in-Ok.ensures, c.address_of-in-Ok.ensures)

pub returns-in-Err : goal.returns-in-Err
returns-in-Err c = rw (c.in-Err.is, c.refusal_head.ensures)
