use mathlib.Core.Path.{◌∙◌}
use Rattle.format.proofs.Layouts.{section-inside}
use Rattle.address_put.proofs.New.{header-put}
use Rattle.address_put.proofs.put_header.Goals as goal

pub put_address-requires : goal.put_address-requires
put_address-requires c = ((section-inside c.args.fm _ _ c.section_layout-s.ensures c.requires.0).paddr, c.requires.1, c.requires.2)

pub put_address-requires-2 : goal.put_address-requires-2
put_address-requires-2 c = ((section-inside c.args.fm _ _ c.section_layout-s.ensures c.requires.0).vaddr, c.put_address.auto.out ∙ c.requires.1, c.requires.2)

pub returns : goal.returns
returns c = λ m p g l h. header-put _ _ _ _ _ _ _ _ c.section_layout-s.ensures (c.put_address.ensures m p g l h) (c.put_address-2.ensures m p g l h)
