use borrow.Author.Tests.{eq-eqb, ne_eqb}
use Rattle.section_tables.specs.Tables.{is_overflow_of}
use Rattle.section_tables.proofs.is_overflow_of.Goals as goal

pub returns-then-flags-eq-OVRFLO : goal.returns-then-flags-eq-OVRFLO
unfolding is_overflow_of
returns-then-flags-eq-OVRFLO c = rw (← c.flags.ensures, eq-eqb _ _ c.if-flags-eq-OVRFLO.true)

pub returns : goal.returns
unfolding is_overflow_of
returns c = rw (← c.flags.ensures, ne_eqb _ _ c.if-flags-eq-OVRFLO.false)
