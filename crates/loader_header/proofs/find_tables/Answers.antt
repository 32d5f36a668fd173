use native.Mathlib.Omega.{arith}
use Rattle.loader_header.proofs.Places.{entry-short}
use Rattle.loader_header.specs.Header.{tables_of}
use Rattle.loader_header.proofs.find_tables.Goals as goal

pub overflow_mul-relocations : goal.overflow_mul-relocations
overflow_mul-relocations c = rw c.relocation_layout-l.ensures (omega (arith, entry-short c.args.f c.args.h.nreloc c.requires.1.nreloc))

pub place_of-requires-2 : goal.place_of-requires-2
place_of-requires-2 c = (rw c.relocation_layout-l.ensures c.requires.0.relocations, c.requires.0.room)

pub returns : goal.returns
unfolding tables_of
returns c = rw (c.place_of.ensures, c.place_of-2.ensures, c.place_of-3.ensures, c.place_of-4.ensures, c.relocation_layout-l.ensures)
