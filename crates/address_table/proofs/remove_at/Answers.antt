use Rattle.std.proofs.Common.{rules}
use Rattle.address_table.proofs.Steps.{removed}
use Rattle.address_table.proofs.remove_at.Goals as goal

pub returns : goal.returns
returns c = let a = c.args in removed a.table.now a.p a.n (search rules) c.requires.0 c.requires.1 c.move_up.ensures c.write_row.ensures
