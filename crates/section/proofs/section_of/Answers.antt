use Rattle.section.specs.Section.{section_of}
use Rattle.section.proofs.section_of.Goals as goal

pub returns : goal.returns
unfolding section_of
returns c = rw c.has_data.ensures
