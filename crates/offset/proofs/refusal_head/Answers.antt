use Rattle.offset.proofs.refusal_head.Goals as goal

pub returns : goal.returns
returns c = rw (← c.offset_of.ensures) c.refused_head.ensures
