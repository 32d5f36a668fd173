use Rattle.offset.proofs.Places.{section-relocation-length}
use Rattle.offset.proofs.section_relocation_place.Goals as goal

pub entry_place-requires : goal.entry_place-requires
entry_place-requires c = let f = c.args.s.format in rw c.entry_length.ensures (c.requires.0, (section-relocation-length f).0, (section-relocation-length f).1)

pub returns : goal.returns
returns c = rw (← c.entry_length.ensures, ← c.section_table-start.ensures) c.entry_place.ensures
