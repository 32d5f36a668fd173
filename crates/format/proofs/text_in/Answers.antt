use Rattle.format.specs.Range.{text_in}
use Rattle.format.proofs.text_in.Goals as goal

pub text_of-requires : goal.text_of-requires
text_of-requires c = rw c.bytes_in.ensures c.requires

pub returns : goal.returns
unfolding text_in
returns c = rw (← c.bytes_in.ensures) c.text_of.ensures
