use Rattle.object_entry.specs.Entry.{symbol_moves}
use Rattle.object_entry.proofs.symbol_moves.Goals as goal

pub returns : goal.returns
unfolding symbol_moves
returns c = rw (← c.entry_in-e.ensures) c.section_moved.ensures
