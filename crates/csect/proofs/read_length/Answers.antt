use native.Mathlib.Omega.{arith}
use Rattle.csect.proofs.read_length.Goals as goal

pub read_field-low-requires : goal.read_field-low-requires
read_field-low-requires c = rw c.at.ensures (omega (arith, c.requires))

pub read_field-requires : goal.read_field-requires
read_field-requires c = rw c.at-in-Xcoff64.ensures (omega (arith, c.requires))

pub overflow_mul-result : goal.overflow_mul-result
overflow_mul-result c = let h = rw c.at-in-Xcoff64.ensures at c.read_field.ensures.bound in omega arith

pub overflow_add-result : goal.overflow_add-result
overflow_add-result c = let h = rw c.at-in-Xcoff64.ensures at c.read_field.ensures.bound in let l = rw c.at.ensures at c.read_field-low.ensures.bound in omega arith

pub returns-in-Xcoff32 : goal.returns-in-Xcoff32
returns-in-Xcoff32 c = rw (c.in-Xcoff32.is, c.read_field-low.ensures.value, c.at.ensures)

pub returns-in-Xcoff64 : goal.returns-in-Xcoff64
returns-in-Xcoff64 c = rw (c.in-Xcoff64.is, c.read_field.ensures.value, c.at-in-Xcoff64.ensures, c.read_field-low.ensures.value, c.at.ensures)
