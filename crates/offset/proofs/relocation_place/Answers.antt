use Rattle.offset.proofs.Places.{relocation-length}
use Rattle.offset.proofs.relocation_place.Goals as goal

pub entry_place-requires : goal.entry_place-requires
entry_place-requires c = rw c.relocation_layout-l.ensures (c.requires, (relocation-length c.args.s.format).0, (relocation-length c.args.s.format).1)

pub returns : goal.returns
returns c = rw (← c.relocation_layout-l.ensures) c.entry_place.ensures
