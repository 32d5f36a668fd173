use borrow.Author.Tests.{eq-eqb, ne_eqb}
use Rattle.loader_header.specs.Header.{table_past}
use Rattle.loader_header.proofs.is_table_past.Goals as goal

pub returns-then-len-eq0 : goal.returns-then-len-eq0
unfolding table_past
returns-then-len-eq0 c = rw (eq-eqb _ _ c.if-len-eq0.true)

pub returns : goal.returns
unfolding table_past
returns c = rw (ne_eqb _ _ c.if-len-eq0.false) c.ends_past.ensures
