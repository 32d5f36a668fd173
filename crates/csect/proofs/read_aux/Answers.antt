use native.Mathlib.Omega.{arith}
use Rattle.csect.specs.Csect.{aux_at}
use Rattle.csect.proofs.read_aux.Goals as goal

pub read_field-requires : goal.read_field-requires
read_field-requires c = rw c.at.ensures (omega (arith, c.requires))

pub read_field-requires-2 : goal.read_field-requires-2
read_field-requires-2 c = rw c.at-2.ensures (omega (arith, c.requires))

pub read_field-requires-3 : goal.read_field-requires-3
read_field-requires-3 c = rw c.at-3.ensures (omega (arith, c.requires))

pub returns : goal.returns
unfolding aux_at
returns c = rw (c.read_length.ensures, c.read_field.ensures.value, c.at.ensures, c.read_field-2.ensures.value, c.at-2.ensures, c.read_field-3.ensures.value, c.at-3.ensures)
