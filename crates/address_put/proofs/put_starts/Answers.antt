use mathlib.Core.Path.{◌∙◌}
use Rattle.format.proofs.Layouts.{aux-inside}
use Rattle.address_put.proofs.New.{starts-put}
use Rattle.address_put.proofs.put_starts.Goals as goal

pub put_address-requires : goal.put_address-requires
put_address-requires c = ((aux-inside c.args.fm _ _ c.aux_layout-a.ensures c.requires.0).dstart, c.requires.1, tt)

pub put_address-requires-2 : goal.put_address-requires-2
put_address-requires-2 c = ((aux-inside c.args.fm _ _ c.aux_layout-a.ensures c.requires.0).tstart, c.put_address.auto.out ∙ c.requires.1, tt)

pub returns : goal.returns
returns c = λ m p g l h. starts-put _ _ c.args.fm _ _ _ _ c.aux_layout-a.ensures (c.put_address.ensures m p g l h) (c.put_address-2.ensures m p g l h)
