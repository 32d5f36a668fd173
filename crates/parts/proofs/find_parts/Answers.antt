use native.Mathlib.Omega.{arith}
use Rattle.parts.proofs.Tallied.{each-known}
use Rattle.parts.specs.Sections.{parts_of, tallies_of}
use Rattle.parts.proofs.find_parts.Goals as goal

pub part_at-requires : goal.part_at-requires
part_at-requires c = let k = (each-known c.args.y c.requires.1 c.requires.2).text in (k.0, omega arith)

pub part_at-requires-2 : goal.part_at-requires-2
part_at-requires-2 c = let k = (each-known c.args.y c.requires.1 c.requires.2).«data» in (k.0, omega arith)

pub part_at-requires-3 : goal.part_at-requires-3
part_at-requires-3 c = let k = (each-known c.args.y c.requires.1 c.requires.2).bss in (k.0, omega arith)

pub part_at-requires-4 : goal.part_at-requires-4
part_at-requires-4 c = let k = (each-known c.args.y c.requires.1 c.requires.2).loader in (k.0, omega arith)

pub returns : goal.returns
unfolding parts_of tallies_of
returns c = rw (c.part_at.ensures, c.part_at-2.ensures, c.part_at-3.ensures, c.part_at-4.ensures, c.requires.1)
