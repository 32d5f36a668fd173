use mathlib.Core.Path.{refl}
use borrow.Author.Tests.{eq-eqb, ne_eqb}
use Rattle.section_kind.proofs.Lookup.{or-none}
use Rattle.section_kind.proofs.SectionKind.may_have_raw.Goals as goal

pub returns-then-f-eq-BSS : goal.returns-then-f-eq-BSS
returns-then-f-eq-BSS c = rw (← c.flags-f.ensures, eq-eqb _ _ c.if-f-eq-BSS.true) refl

pub returns-then-f-eq-TBSS : goal.returns-then-f-eq-TBSS
returns-then-f-eq-TBSS c = rw (← c.flags-f.ensures, ne_eqb _ _ c.if-f-eq-BSS.false, eq-eqb _ _ c.if-f-eq-TBSS.true) refl

pub returns-then-f-eq-OVRFLO : goal.returns-then-f-eq-OVRFLO
returns-then-f-eq-OVRFLO c = rw (← c.flags-f.ensures, ne_eqb _ _ c.if-f-eq-BSS.false, ne_eqb _ _ c.if-f-eq-TBSS.false, eq-eqb _ _ c.if-f-eq-OVRFLO.true) refl

pub returns : goal.returns
returns c = rw (← c.flags-f.ensures, ne_eqb _ _ c.if-f-eq-BSS.false, ne_eqb _ _ c.if-f-eq-TBSS.false, ne_eqb _ _ c.if-f-eq-OVRFLO.false, or-none) refl
