use Rattle.mend.proofs.Judged.{refusals-told}
use Rattle.symbol.proofs.Opened.{tables-inside}
use Rattle.mend.proofs.refusals_of.Goals as goal

pub has_name-requires : goal.has_name-requires
has_name-requires c = (tables-inside c.args.file.now c.args.t c.requires.0).debug

pub returns : goal.returns
returns c = refusals-told c.args.file.now c.args.t c.args.i c.args.e c.requires.0 c.ends_past.ensures c.is_section.ensures c.has_name.ensures c.is_unknown.ensures
