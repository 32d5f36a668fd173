use borrow.Author.Tests.{eq-eqb, ne_eqb}
use mathlib.Core.Path.{◌∙◌, ap}
use native.Mathlib.Omega.{arith}
use Rattle.format.specs.Layout.{symbol_layout}
use Rattle.format.specs.Name.{name_field}
use Rattle.format.proofs.read_name_field.Goals as goal

pub read_field-requires : goal.read_field-requires
read_field-requires c = rw c.at.ensures (omega (arith, c.requires))

pub read_field-requires-then-read_field-eq0 : goal.read_field-requires-then-read_field-eq0
read_field-requires-then-read_field-eq0 c = rw (c.symbol_layout-l.ensures, c.in-Xcoff32.is) (omega (arith, c.requires))

pub returns-then-read_field-eq0 : goal.returns-then-read_field-eq0
unfolding name_field
returns-then-read_field-eq0 c = let e = c.symbol_layout-l.ensures ∙ ap symbol_layout c.in-Xcoff32.is in rw (c.in-Xcoff32.is, eq-eqb _ _ (rw (c.read_field.ensures.value, c.at.ensures) at c.if-read_field-eq0.true), c.read_field-then-read_field-eq0.ensures.value, e)

pub read_field-requires-in-Xcoff64 : goal.read_field-requires-in-Xcoff64
read_field-requires-in-Xcoff64 c = rw (c.symbol_layout-l.ensures, c.in-Xcoff64.is) (omega (arith, c.requires))

pub returns-else-read_field-eq0 : goal.returns-else-read_field-eq0
unfolding name_field
returns-else-read_field-eq0 c = rw (c.in-Xcoff32.is, ne_eqb _ _ (rw (c.read_field.ensures.value, c.at.ensures) at c.if-read_field-eq0.false))

pub returns-in-Xcoff64 : goal.returns-in-Xcoff64
unfolding name_field
returns-in-Xcoff64 c = let e = c.symbol_layout-l.ensures ∙ ap symbol_layout c.in-Xcoff64.is in rw (c.in-Xcoff64.is, c.read_field-in-Xcoff64.ensures.value, e)
