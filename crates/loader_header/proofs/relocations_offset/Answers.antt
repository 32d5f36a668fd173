use native.Mathlib.Omega.{arith}
use Rattle.loader_header.specs.Header.{relocations_offset}
use Rattle.loader_header.proofs.relocations_offset.Goals as goal

pub read_field-requires : goal.read_field-requires
read_field-requires c = rw c.at.ensures (let h = rw c.in-Xcoff32.is at c.requires in omega arith)

pub overflow_mul-result : goal.overflow_mul-result
overflow_mul-result c = let b = rw c.at.ensures at c.read_field.ensures.bound in omega arith

pub overflow_add-result : goal.overflow_add-result
overflow_add-result c = let b = rw c.at.ensures at c.read_field.ensures.bound in omega arith

pub read_field-requires-in-Xcoff64 : goal.read_field-requires-in-Xcoff64
read_field-requires-in-Xcoff64 c = rw c.at-in-Xcoff64.ensures (let h = rw c.in-Xcoff64.is at c.requires in omega arith)

pub returns-in-Xcoff32 : goal.returns-in-Xcoff32
unfolding relocations_offset
returns-in-Xcoff32 c = rw (c.in-Xcoff32.is, c.read_field.ensures.value, c.at.ensures)

pub returns-in-Xcoff64 : goal.returns-in-Xcoff64
unfolding relocations_offset
returns-in-Xcoff64 c = rw c.in-Xcoff64.is (rw c.at-in-Xcoff64.ensures at c.read_field-in-Xcoff64.ensures.value)
