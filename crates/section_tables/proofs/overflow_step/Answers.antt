use Rattle.word.proofs.Test.{found}
use Rattle.section_tables.specs.Tables.{overflow_step}
use Rattle.section_tables.proofs.overflow_step.Goals as goal

pub returns-then-is_overflow_of : goal.returns-then-is_overflow_of
unfolding overflow_step
returns-then-is_overflow_of c = rw (found c.is_overflow_of.ensures c.if-is_overflow_of.true, c.overflow_count.ensures)

pub returns : goal.returns
unfolding overflow_step
returns c = rw (found c.is_overflow_of.ensures c.if-is_overflow_of.false)
