use borrow.Author.Tests.{eq-eqb, ne_eqb}
use Rattle.relocation.specs.Relocation.{is_width}
use Rattle.relocation.proofs.is_width.Goals as goal

pub returns-then-bits-eq32 : goal.returns-then-bits-eq32
unfolding is_width
returns-then-bits-eq32 c = rw (c.in-Xcoff64.is, eq-eqb _ _ c.if-bits-eq32.true)

pub returns-in-Xcoff32 : goal.returns-in-Xcoff32
unfolding is_width
returns-in-Xcoff32 c = rw c.in-Xcoff32.is

pub returns-else-bits-eq32 : goal.returns-else-bits-eq32
unfolding is_width
returns-else-bits-eq32 c = rw (c.in-Xcoff64.is, ne_eqb _ _ c.if-bits-eq32.false)
