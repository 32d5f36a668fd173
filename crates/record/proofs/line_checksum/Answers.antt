use Rattle.record.proofs.Stores.{sum-leading, complement}
use Rattle.record.proofs.line_checksum.Goals as goal

pub returns : goal.returns
returns c = let a = c.args in rw (sum-leading a.kind a.address a.n) (complement _)
