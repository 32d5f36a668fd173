use lib.ListN.{length}
use native.Mathlib.Omega.{arith}
use Rattle.loader_header.proofs.Places.{entry-inside}
use Rattle.loader_symbol.proofs.Records.{entry-is}
use Rattle.loader_symbol.proofs.read_entry.Goals as goal

pub read_field-requires : goal.read_field-requires
read_field-requires c = (entry-inside c.args.f c.args.base (length c.args.file.now) c.symbol_layout-l.ensures c.requires).0

pub read_field-requires-2 : goal.read_field-requires-2
read_field-requires-2 c = (entry-inside c.args.f c.args.base (length c.args.file.now) c.symbol_layout-l.ensures c.requires).1

pub read_field-requires-3 : goal.read_field-requires-3
read_field-requires-3 c = rw c.at.ensures (omega (arith, c.requires))

pub read_field-requires-4 : goal.read_field-requires-4
read_field-requires-4 c = rw c.at-2.ensures (omega (arith, c.requires))

pub read_field-requires-5 : goal.read_field-requires-5
read_field-requires-5 c = rw c.at-3.ensures (omega (arith, c.requires))

pub read_field-requires-6 : goal.read_field-requires-6
read_field-requires-6 c = rw c.at-4.ensures (omega (arith, c.requires))

pub returns : goal.returns
returns c = entry-is c.args.f c.args.base c.args.file.now c.symbol_layout-l.ensures c.read_name_field.ensures c.read_field.ensures.value c.read_field-2.ensures.value (rw c.at.ensures at c.read_field-3.ensures.value) (rw c.at-2.ensures at c.read_field-4.ensures.value) (rw c.at-3.ensures at c.read_field-5.ensures.value) (rw c.at-4.ensures at c.read_field-6.ensures.value)
