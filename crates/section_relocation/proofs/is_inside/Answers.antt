use mathlib.Core.Bool.{not}
use mathlib.Core.Path.{◌∙◌, ap}
use Rattle.section_relocation.proofs.Entries.{inside-below, inside-by}
use Rattle.section_relocation.proofs.is_inside.Goals as goal

pub returns-then-at-low : goal.returns-then-at-low
returns-then-at-low c = let a = c.args in inside-below a.s a.at a.k c.if-at-low.true

pub returns : goal.returns
returns c = let a = c.args in ap not c.ends_past.ensures ∙ inside-by a.s a.at a.k c.if-at-low.false c.bytes_in.ensures
