use native.Mathlib.Omega.{arith}
use Rattle.loader_header.specs.Header.{symbols_offset}
use Rattle.loader_header.proofs.symbols_offset.Goals as goal

pub read_field-requires : goal.read_field-requires
read_field-requires c = rw c.at.ensures (let h = rw c.in-Xcoff64.is at c.requires in omega arith)

pub returns-in-Xcoff32 : goal.returns-in-Xcoff32
unfolding symbols_offset
returns-in-Xcoff32 c = rw c.in-Xcoff32.is

pub returns-in-Xcoff64 : goal.returns-in-Xcoff64
unfolding symbols_offset
returns-in-Xcoff64 c = rw c.in-Xcoff64.is (rw c.at.ensures at c.read_field.ensures.value)
