use Rattle.std.proofs.Common.{rules}
use Rattle.std.proofs.lemmas.List.Edits.{sets-eq}
use Rattle.std.proofs.lemmas.Slice.{overwrites}
use Rattle.rows.proofs.write_row.Goals as goal

pub returns : goal.returns
returns c = rw (sets-eq c.args.row.now c.args.out.now c.args.at c.requires) (search (rules, overwrites))
