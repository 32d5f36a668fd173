use mathlib.Core.Path.{refl}
use borrow.Author.Tests.{eq-eqb, ne_eqb}
use Rattle.section_kind.proofs.SectionKind.is_high_half_good.Goals as goal

pub returns-then-high-eq0 : goal.returns-then-high-eq0
returns-then-high-eq0 c = rw (eq-eqb _ _ c.if-high-eq0.true) refl

pub returns : goal.returns
returns c = rw (ne_eqb _ _ c.if-high-eq0.false) refl
