use Rattle.written.proofs.Found.{opthdr-small}
use native.Mathlib.Omega.{arith}
use Rattle.address_put.proofs.New.{kind-in, header-room, section-put}
use Rattle.address_put.proofs.put_section.Goals as goal

pub offset_bounds-sections-i : goal.offset_bounds-sections-i
offset_bounds-sections-i c = omega (arith, c.requires.1, c.requires.0.few)

pub bounds-sections-i : goal.bounds-sections-i
bounds-sections-i c = omega (arith, c.requires.1, c.requires.0.few)

pub section_start-base-requires : goal.section_start-base-requires
section_start-base-requires c = (opthdr-small _ _ c.requires.0, omega (arith, c.requires.1, c.requires.0.few))

pub put_header-requires : goal.put_header-requires
put_header-requires c = (header-room c.args.file.now c.args.y c.args.i c.requires.0 c.requires.1 c.section_start-base.ensures, c.requires.2, kind-in _ _ c.kind_follows.ensures)

pub returns : goal.returns
returns c = λ m p g l h. section-put _ _ _ _ _ _ c.section_start-base.ensures c.kind_follows.ensures (c.put_header.ensures m p g l h)
