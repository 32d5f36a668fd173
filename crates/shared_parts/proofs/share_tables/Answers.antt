use native.Mathlib.Omega.{arith}
use Rattle.shared_parts.proofs.Lists.{tables-shared}
use Rattle.shared_parts.proofs.share_tables.Goals as goal

pub overflow_mul-symbols : goal.overflow_mul-symbols
overflow_mul-symbols c = omega (arith, c.requires.loader.tables.few)

pub overflow_mul-relocations : goal.overflow_mul-relocations
overflow_mul-relocations c = rw c.relocation_layout-r.ensures (let w = c.requires.entries.inside in let s = c.requires.entries.small in omega arith)

pub returns : goal.returns
returns c = let q = c.args in tables-shared q.l c.loader_layout-h.ensures c.relocation_layout-r.ensures c.share_two.ensures
