use Rattle.address_row.proofs.Words.{name-zeros}
use Rattle.address_row.proofs.pad.Goals as goal

pub returns : goal.returns
returns c = rw c.copy_from_slice.ensures.after (name-zeros c.args.name.now)
