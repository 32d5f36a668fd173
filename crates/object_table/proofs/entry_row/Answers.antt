use mathlib.Core.Path.{refl}
use Rattle.object_table.proofs.entry_row.Goals as goal

pub returns : goal.returns
returns c = rw (c.bits_in.ensures, c.field_in-g.ensures, c.entry_in-e.ensures) refl
