use Rattle.object_entry.proofs.Entries.{held, symbol-there}
use Rattle.object_entry.specs.Entry.{object_entry, applied}
use Rattle.object_entry.proofs.entry_at.Goals as goal

pub field_of-requires : goal.field_of-requires
field_of-requires c = let a = c.args in rw c.entry_in-e.ensures (held a.file.now a.t a.s a.i c.requires.3, c.requires.1.placed)

pub symbol_moves-requires : goal.symbol_moves-requires
symbol_moves-requires c = let a = c.args in (c.requires.0, rw c.entry_in-e.ensures (symbol-there a.file.now a.t a.s a.i c.requires.3))

pub returns : goal.returns
unfolding object_entry applied
returns c = rw (← c.entry_in-e.ensures, c.field_of.ensures, c.effect_or-x.ensures, c.symbol_moves.ensures, c.name_of.ensures)
