use borrow.Author.Tests.{eq-eqb, le-ltb, lt-ltb, ne_eqb}
use Rattle.sheet.specs.Sheet.{form_by, form_of}
use Rattle.sheet.proofs.form_of.Goals as goal

pub returns-then-sheet-lt2 : goal.returns-then-sheet-lt2
unfolding form_of
returns-then-sheet-lt2 c = rw (lt-ltb _ _ c.if-sheet-lt2.true)

pub returns-then-first-eq2 : goal.returns-then-first-eq2
unfolding form_of form_by
returns-then-first-eq2 c = rw (le-ltb _ _ c.if-sheet-lt2.false, ← c.get16-first.ensures, eq-eqb _ _ c.if-first-eq2.true)

pub returns-then-first-eq0 : goal.returns-then-first-eq0
unfolding form_of form_by
returns-then-first-eq0 c = rw (le-ltb _ _ c.if-sheet-lt2.false, ← c.get16-first.ensures, ne_eqb _ _ c.if-first-eq2.false, eq-eqb _ _ c.if-first-eq0.true)

pub returns : goal.returns
unfolding form_of form_by
returns c = rw (le-ltb _ _ c.if-sheet-lt2.false, ← c.get16-first.ensures, ne_eqb _ _ c.if-first-eq2.false, ne_eqb _ _ c.if-first-eq0.false)
