use Rattle.import_table.proofs.Rest.{rest-zero}
use Rattle.import_table.proofs.string_length.Goals as goal

pub returns : goal.returns
returns c = rest-zero c.args.file.now c.args.ids c.args.at c.first_zero.ensures
