use mathlib.Core.Path.{refl}
use Rattle.relocation_table.specs.Rows.{relocation_row}
use Rattle.relocation_table.proofs.relocation_row.Goals as goal

pub returns : goal.returns
unfolding relocation_row
returns c = rw (c.one_if-2.ensures, c.bytes_wide.ensures.value, c.one_if.ensures, c.relocation_at-r.ensures, c.entry_in-e.ensures) refl
