use mathlib.Core.Path.{◌∙◌}
use Rattle.address_put.proofs.New.{aux-at, aux-room, anchor-in, anchors-put, aux-put}
use Rattle.address_put.proofs.put_aux.Goals as goal

pub put_address-requires : goal.put_address-requires
put_address-requires c = ((aux-at c.args.l.layout.format _ c.header_layout-h.ensures c.aux_layout-a.ensures c.requires.0).toc, c.requires.1, anchor-in _ _ _ c.anchor_follows.ensures)

pub put_address-requires-2 : goal.put_address-requires-2
put_address-requires-2 c = ((aux-at c.args.l.layout.format _ c.header_layout-h.ensures c.aux_layout-a.ensures c.requires.0).entry, c.put_address.auto.out ∙ c.requires.1, anchor-in _ _ _ c.anchor_follows-2.ensures)

pub put_starts-requires : goal.put_starts-requires
put_starts-requires c = (aux-room c.args.l.layout.format _ c.header_layout-h.ensures c.requires.0, c.put_address-2.auto.out ∙ c.put_address.auto.out ∙ c.requires.1)

pub returns : goal.returns
returns c = let q = c.args.l.layout in λ m p g l h. aux-put _ _ q _ _ (anchors-put _ _ q.format q.parts q.entry q.toc _ _ _ _ c.header_layout-h.ensures c.aux_layout-a.ensures c.anchor_follows-2.ensures c.anchor_follows.ensures (c.put_address.ensures m p g l h) (c.put_address-2.ensures m p g l h) (c.put_starts.ensures m p g l h))
