use Rattle.format.proofs.loader_layout.Goals as goal

pub returns-in-Xcoff32 : goal.returns-in-Xcoff32
returns-in-Xcoff32 c = rw c.in-Xcoff32.is (cc)

pub returns-in-Xcoff64 : goal.returns-in-Xcoff64
returns-in-Xcoff64 c = rw c.in-Xcoff64.is (cc)
