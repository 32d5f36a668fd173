use mathlib.Core.Bool.{not}
use mathlib.Core.Path.{◌∙◌, ap}
use Rattle.relocation.specs.Relocation.{bytes_wide}
use Rattle.relocation.proofs.Entries.{inside-below, inside-by}
use Rattle.relocation.proofs.is_inside.Goals as goal

pub returns-then-at-low : goal.returns-then-at-low
returns-then-at-low c = inside-below _ _ c.if-at-low.true

pub returns : goal.returns
returns c = ap not c.ends_past.ensures ∙ inside-by c.args.p c.args.e c.if-at-low.false (c.bytes_wide.ensures.value ∙ ap bytes_wide c.before.before.is_wide.ensures)
