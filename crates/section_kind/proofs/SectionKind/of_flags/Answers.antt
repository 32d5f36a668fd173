use mathlib.Core.Path.{refl}
use borrow.Author.Tests.{eq-eqb, ne_eqb}
use Rattle.section_kind.specs.Kind.{kind_of}
use Rattle.section_kind.proofs.SectionKind.of_flags.Goals as goal

pub returns-then-flags-eq-DELETED : goal.returns-then-flags-eq-DELETED
unfolding kind_of
returns-then-flags-eq-DELETED c = rw (eq-eqb _ _ c.if-flags-eq-DELETED.true) refl

pub returns-then-is_high_half_good : goal.returns-then-is_high_half_good
unfolding kind_of
returns-then-is_high_half_good c = rw (ne_eqb _ _ c.if-flags-eq-DELETED.false, ← c.is_high_half_good.ensures, c.if-is_high_half_good.true) c.listed.ensures

pub returns : goal.returns
unfolding kind_of
returns c = rw (ne_eqb _ _ c.if-flags-eq-DELETED.false, ← c.is_high_half_good.ensures, c.if-is_high_half_good.false) refl
