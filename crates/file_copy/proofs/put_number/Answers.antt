use mathlib.Core.Path.{◌∙◌}
use Rattle.file_copy.proofs.Put.{put_low, put_byte, below}
use Rattle.file_copy.proofs.put_number.Goals as goal

pub bounds-s-off : goal.bounds-s-off
bounds-s-off c = below _ _ (rw c.in-One.is at c.requires)

pub put16-requires : goal.put16-requires
put16-requires c = rw c.in-Two.is at c.requires

pub put32-requires : goal.put32-requires
put32-requires c = rw c.in-Four.is at c.requires

pub put64-requires : goal.put64-requires
put64-requires c = rw c.in-Eight.is at c.requires

pub returns-in-One : goal.returns-in-One
returns-in-One c = rw c.in-One.is (put_byte _ _ _)

pub returns-in-Two : goal.returns-in-Two
returns-in-Two c = rw c.in-Two.is (c.put16.ensures ∙ put_low 2 _ _ _)

pub returns-in-Four : goal.returns-in-Four
returns-in-Four c = rw c.in-Four.is (c.put32.ensures ∙ put_low 4 _ _ _)

pub returns-in-Eight : goal.returns-in-Eight
returns-in-Eight c = rw c.in-Eight.is c.put64.ensures
