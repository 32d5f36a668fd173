use Rattle.word.proofs.Test.{found}
use Rattle.section_tables.specs.Tables.{table_at}
use Rattle.section_tables.proofs.table_at.Goals as goal

pub returns-then-ends_past : goal.returns-then-ends_past
unfolding table_at
returns-then-ends_past c = rw (found c.ends_past.ensures c.if-ends_past.true)

pub returns : goal.returns
unfolding table_at
returns c = rw (found c.ends_past.ensures c.if-ends_past.false)
