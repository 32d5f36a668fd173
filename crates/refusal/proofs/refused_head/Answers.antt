use Rattle.refusal.proofs.refused_head.Goals as goal

pub returns : goal.returns
returns c = rw (c.number-number.ensures, c.item-item.ensures)
