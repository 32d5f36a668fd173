use Rattle.symbol.proofs.Opened.{strings-inside, few-sections, summary-inside, tables-open}
use Rattle.symbol.proofs.tables_of.Goals as goal

pub names_end-requires : goal.names_end-requires
names_end-requires c = strings-inside c.args.file.now c.requires.0 c.requires.1

pub find_debug-requires : goal.find_debug-requires
find_debug-requires c = few-sections c.args.file.now c.requires.0 c.requires.1

pub has_version_2-requires : goal.has_version_2-requires
has_version_2-requires c = summary-inside c.args.file.now c.requires.0 c.requires.1

pub returns : goal.returns
returns c = tables-open c.args.file.now c.requires.0 c.requires.1 c.names_end.ensures c.find_debug.ensures c.has_version_2.ensures
