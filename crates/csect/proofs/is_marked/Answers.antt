use Rattle.csect.proofs.is_marked.Goals as goal

pub returns-in-Xcoff64 : goal.returns-in-Xcoff64
returns-in-Xcoff64 c = rw c.in-Xcoff64.is
