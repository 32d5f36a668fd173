use Rattle.record.proofs.Stores.{lead-stored}
use Rattle.record.proofs.put_lead.Goals as goal

pub returns : goal.returns
returns c = let a = c.args in lead-stored a.out.now _ _ _ _ _ _ _ a.at a.kind a.address a.n c.put.ensures c.put-2.ensures c.put_hex.ensures c.put_hex-2.ensures c.put_hex-3.ensures c.put_hex-4.ensures c.put_hex-5.ensures
