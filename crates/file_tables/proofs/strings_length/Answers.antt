use borrow.Author.Tests.{eq-eqb, ne_eqb}
use mathlib.Core.Logic.{⊎_elim}
use Rattle.file_tables.specs.Tables.{strings_length}
use Rattle.file_tables.proofs.strings_length.Goals as goal

pub returns-then-end-file : goal.returns-then-end-file
unfolding strings_length
returns-then-end-file c = rw (eq-eqb _ _ c.if-end-file.true)

pub get32-requires : goal.get32-requires
get32-requires c = ⊎_elim (λ e. absurd (c.if-end-file.false e)) (λ h. h) c.requires

pub returns : goal.returns
unfolding strings_length
returns c = rw (ne_eqb _ _ c.if-end-file.false) c.get32.ensures
