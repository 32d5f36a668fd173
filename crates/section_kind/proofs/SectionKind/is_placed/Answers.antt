use mathlib.Core.Path.{refl}
use borrow.Author.Tests.{eq-eqb, ne_eqb}
use Rattle.section_kind.proofs.Lookup.{or-none}
use Rattle.section_kind.proofs.SectionKind.is_placed.Goals as goal

pub returns-then-f-eq-TEXT : goal.returns-then-f-eq-TEXT
returns-then-f-eq-TEXT c = rw (← c.flags-f.ensures, eq-eqb _ _ c.if-f-eq-TEXT.true) refl

pub returns-then-f-eq-DATA : goal.returns-then-f-eq-DATA
returns-then-f-eq-DATA c = rw (← c.flags-f.ensures, ne_eqb _ _ c.if-f-eq-TEXT.false, eq-eqb _ _ c.if-f-eq-DATA.true) refl

pub returns : goal.returns
returns c = rw (← c.flags-f.ensures, ne_eqb _ _ c.if-f-eq-TEXT.false, ne_eqb _ _ c.if-f-eq-DATA.false, or-none) refl
