use Rattle.address_put.proofs.New.{entry-text, entry-data}
use Rattle.address_put.proofs.entry_follows.Goals as goal

pub returns-then-e-number : goal.returns-then-e-number
returns-then-e-number c = entry-text _ _ c.if-e-number.true

pub returns : goal.returns
returns c = entry-data _ _ c.if-e-number.false
