use Rattle.offset.proofs.Places.{header-length}
use Rattle.offset.proofs.header_place.Goals as goal

pub entry_place-requires : goal.entry_place-requires
entry_place-requires c = rw c.section_layout-l.ensures (c.requires, (header-length c.args.s.format).0, (header-length c.args.s.format).1)

pub returns : goal.returns
returns c = rw (← c.less.ensures, ← c.section_layout-l.ensures) c.entry_place.ensures
