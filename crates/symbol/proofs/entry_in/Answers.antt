use native.Mathlib.Omega.{arith}
use Rattle.symbol.specs.Entry.{entry_of}
use Rattle.symbol.proofs.Opened.{tables-inside, entry_whole}
use Rattle.symbol.proofs.entry_in.Goals as goal

pub overflow_mul-base : goal.overflow_mul-base
overflow_mul-base c = omega (arith, tables-inside c.args.file.now c.args.t c.requires.0)

pub overflow_add-base : goal.overflow_add-base
overflow_add-base c = omega (arith, tables-inside c.args.file.now c.args.t c.requires.0)

pub read_entry-requires : goal.read_entry-requires
read_entry-requires c = entry_whole c.args.file.now c.args.t c.args.i.0 c.requires.0 c.requires.1

pub returns : goal.returns
unfolding entry_of
returns c = c.read_entry.ensures
