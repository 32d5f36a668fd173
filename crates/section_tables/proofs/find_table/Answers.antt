use native.Mathlib.Omega.{arith}
use borrow.Author.Tests.{eq-eqb, ne_eqb}
use Rattle.word.proofs.Test.{found}
use Rattle.section_tables.specs.Tables.{table_by}
use Rattle.section_tables.proofs.find_table.Goals as goal

pub returns-then-o-ne1 : goal.returns-then-o-ne1
unfolding table_by
returns-then-o-ne1 c = rw (found c.is_overflowed.ensures c.if-is_overflowed.true, ← c.find_overflow-o.ensures, ne_eqb c.find_overflow-o.result.headers 1 (λ e. omega (arith, c.if-o-ne1.true, e)))

pub returns-then-is_overflowed : goal.returns-then-is_overflowed
unfolding table_by
returns-then-is_overflowed c = rw (found c.is_overflowed.ensures c.if-is_overflowed.true, ← c.find_overflow-o.ensures, eq-eqb c.find_overflow-o.result.headers 1 (omega (arith, c.if-o-ne1.false)), ← c.header_start-start.ensures) c.table_at.ensures

pub returns : goal.returns
unfolding table_by
returns c = rw (found c.is_overflowed.ensures c.if-is_overflowed.false, ← c.header_count.ensures, ← c.header_start-start.ensures) c.table_at-2.ensures
