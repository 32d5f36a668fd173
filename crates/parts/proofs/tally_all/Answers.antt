use Rattle.parts.specs.Sections.{tallies_of}
use Rattle.parts.proofs.tally_all.Goals as goal

pub returns : goal.returns
unfolding tallies_of
returns c = rw (c.tally_kind.ensures, c.tally_kind-2.ensures, c.tally_kind-3.ensures, c.tally_kind-4.ensures)
