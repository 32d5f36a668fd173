use Rattle.record.proofs.Stores.{hex-stored}
use Rattle.record.proofs.put_hex.Goals as goal

pub returns : goal.returns
returns c = let a = c.args in hex-stored a.out.now _ _ a.at _ _ a.b c.put.ensures c.put-2.ensures c.digit.ensures c.digit-2.ensures
