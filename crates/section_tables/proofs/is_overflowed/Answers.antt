use Rattle.section_tables.specs.Tables.{is_overflowed}
use Rattle.section_tables.proofs.is_overflowed.Goals as goal

pub returns-in-Xcoff32 : goal.returns-in-Xcoff32
unfolding is_overflowed
returns-in-Xcoff32 c = rw (c.in-Xcoff32.is, c.header_count.ensures)

pub returns-in-Xcoff64 : goal.returns-in-Xcoff64
unfolding is_overflowed
returns-in-Xcoff64 c = rw c.in-Xcoff64.is
