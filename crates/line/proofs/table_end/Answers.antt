use native.Mathlib.Omega.{arith}
use Rattle.line.proofs.table_end.Goals as goal

pub overflow_mul-result : goal.overflow_mul-result
overflow_mul-result c = record { fits = rw c.entry_length.ensures (omega (arith, c.requires)) }

pub overflow_add-result : goal.overflow_add-result
overflow_add-result c = record { fits = rw c.entry_length.ensures c.requires }

pub returns : goal.returns
returns c = rw c.entry_length.ensures
