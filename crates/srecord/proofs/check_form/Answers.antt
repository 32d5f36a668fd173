use Rattle.srecord.proofs.check_form.Goals as goal

pub returns-in-Xcoff64 : goal.returns-in-Xcoff64
returns-in-Xcoff64 c = rw c.in-Xcoff64.is
