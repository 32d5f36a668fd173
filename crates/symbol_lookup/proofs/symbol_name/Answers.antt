use Rattle.symbol_lookup.proofs.Lookup.{name-within}
use Rattle.symbol_lookup.proofs.symbol_name.Goals as goal

pub part_of-requires : goal.part_of-requires
part_of-requires c = rw c.symbol_name_range-a.ensures.cause (name-within _ _)

pub returns : goal.returns
returns c = rw (← c.symbol_name_range-a.ensures.cause) c.part_of.ensures
