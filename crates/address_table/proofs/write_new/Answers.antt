use Rattle.std.proofs.Common.{rules}
use Rattle.address_table.proofs.Steps.{row_written}
use Rattle.address_table.proofs.write_new.Goals as goal

-- src/lib.rt:74:1
pub returns : goal.returns
returns c = let a = c.args in row_written a.table.now a.key a.n a.address (search rules) c.write_row.ensures
