use Rattle.section_relocation.specs.Entry.{effect_of}
use Rattle.section_relocation.proofs.effect_of.Goals as goal

pub returns : goal.returns
unfolding effect_of
returns c = rw (← c.class_of-class.ensures) c.effect_by.ensures
