use Rattle.offset.proofs.loader_symbol_place.Goals as goal

pub returns : goal.returns
returns c = rw (← c.less.ensures) c.entry_place.ensures
