use Rattle.section_relocation.specs.Entry.{field_in}
use Rattle.section_relocation.proofs.field_in.Goals as goal

pub field_of-requires : goal.field_of-requires
field_of-requires c = rw c.entry_in-e.ensures (c.requires.2, c.requires.0.placed)

pub returns : goal.returns
unfolding field_in
returns c = rw (← c.entry_in-e.ensures) c.field_of.ensures
