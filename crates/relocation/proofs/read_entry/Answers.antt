use lib.ListN.{length}
use native.Mathlib.Omega.{arith}
use Rattle.relocation.proofs.Entries.{entry-inside, entry-long}
use Rattle.relocation.specs.Relocation.{entry_at}
use Rattle.relocation.proofs.read_entry.Goals as goal

pub read_field-requires : goal.read_field-requires
read_field-requires c = (entry-inside c.args.f c.args.base (length c.args.file.now) c.relocation_layout-l.ensures c.requires).0

pub read_field-requires-2 : goal.read_field-requires-2
read_field-requires-2 c = (entry-inside c.args.f c.args.base (length c.args.file.now) c.relocation_layout-l.ensures c.requires).1

pub read_field-requires-3 : goal.read_field-requires-3
read_field-requires-3 c = rw c.at.ensures (omega (arith, c.requires, entry-long c.args.f))

pub read_field-requires-4 : goal.read_field-requires-4
read_field-requires-4 c = rw c.at-2.ensures (omega (arith, c.requires, entry-long c.args.f))

pub returns : goal.returns
unfolding entry_at
returns c = rw (c.read_field.ensures.value, c.read_field-2.ensures.value, c.read_field-3.ensures.value, c.read_field-4.ensures.value, c.at.ensures, c.at-2.ensures, c.relocation_layout-l.ensures)
