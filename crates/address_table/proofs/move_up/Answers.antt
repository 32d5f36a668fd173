use Rattle.address_table.proofs.Steps.{moved_up}
use Rattle.address_table.proofs.move_up.Goals as goal

pub returns : goal.returns
returns c = let a = c.args in moved_up a.table.now a.from a.end c.requires.0 c.requires.1 c.copy_within.ensures.after
