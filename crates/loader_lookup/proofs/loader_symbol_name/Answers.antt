use Rattle.lookup.proofs.Symbols.{loader-name-within}
use Rattle.loader_lookup.proofs.loader_symbol_name.Goals as goal

pub part_of-requires : goal.part_of-requires
part_of-requires c = rw c.loader_symbol_name_range-a.ensures.cause (loader-name-within _ _)

pub returns : goal.returns
returns c = rw (← c.loader_symbol_name_range-a.ensures.cause) c.part_of.ensures
