use borrow.Author.Tests.{eq-eqb, ne_eqb}
use Rattle.parts.proofs.is_thread.Goals as goal

pub returns-then-k-eq-TDATA : goal.returns-then-k-eq-TDATA
returns-then-k-eq-TDATA c = rw (eq-eqb _ _ c.if-k-eq-TDATA.true)

pub returns : goal.returns
returns c = rw (ne_eqb _ _ c.if-k-eq-TDATA.false)
