use borrow.Author.Tests.{eq-eqb, ne_eqb}
use Rattle.relocation.proofs.Entries.{above-data, above-text}
use Rattle.relocation.specs.Relocation.{place_of}
use Rattle.relocation.proofs.place_of.Goals as goal

pub overflow_sub-result : goal.overflow_sub-result
overflow_sub-result c = above-text _ _ c.requires c.if-e-n.true

pub returns-then-e-n : goal.returns-then-e-n
unfolding place_of
returns-then-e-n c = rw (eq-eqb _ _ c.if-e-n.true, c.is_wide.ensures)

pub overflow_sub-result-2 : goal.overflow_sub-result-2
overflow_sub-result-2 c = above-data _ _ c.requires c.if-e-n.false

pub returns : goal.returns
unfolding place_of
returns c = rw (ne_eqb _ _ c.if-e-n.false, c.is_wide-2.ensures)
