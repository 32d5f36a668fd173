use Rattle.record_line.proofs.scan_data.Goals as goal

pub returns-then-n-eq32 : goal.returns-then-n-eq32
returns-then-n-eq32 c = rw c.if-n-eq32.true c.scan_line.ensures
