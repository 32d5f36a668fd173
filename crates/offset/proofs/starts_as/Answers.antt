use mathlib.Core.Path.{refl}
use Rattle.file_header.proofs.Checked.{header-in, header-complete}
use Rattle.offset.specs.Offset.{starts_as}
use Rattle.offset.proofs.starts_as.Goals as goal

pub read_header-h-requires : goal.read_header-h-requires
read_header-h-requires c = header-in c.args.f c.args.file.now c.requires.1

pub loader_start-l-requires : goal.loader_start-l-requires
loader_start-l-requires c = (rw c.read_header-h.ensures.value (header-complete c.args.f c.args.file.now c.requires.1), c.read_header-h.ensures.bound)

pub returns : goal.returns
unfolding starts_as
returns c = rw (c.place-2.ensures, c.place.ensures, c.section_start.ensures, c.loader_starts-tables.ensures, c.loader_start-l.ensures, c.read_header-h.ensures.value) refl
