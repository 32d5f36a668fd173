use lib.ListN.{length}
use Rattle.format.proofs.Layouts.{symbol-inside}
use Rattle.symbol.specs.Entry.{entry_at}
use Rattle.symbol.proofs.read_entry.Goals as goal

pub read_field-requires : goal.read_field-requires
read_field-requires c = (symbol-inside c.args.f c.args.base (length c.args.file.now) c.symbol_layout-l.ensures c.requires).value

pub read_field-requires-2 : goal.read_field-requires-2
read_field-requires-2 c = (symbol-inside c.args.f c.args.base (length c.args.file.now) c.symbol_layout-l.ensures c.requires).scnum

pub read_field-requires-3 : goal.read_field-requires-3
read_field-requires-3 c = (symbol-inside c.args.f c.args.base (length c.args.file.now) c.symbol_layout-l.ensures c.requires).ntype

pub read_field-requires-4 : goal.read_field-requires-4
read_field-requires-4 c = (symbol-inside c.args.f c.args.base (length c.args.file.now) c.symbol_layout-l.ensures c.requires).sclass

pub read_field-requires-5 : goal.read_field-requires-5
read_field-requires-5 c = (symbol-inside c.args.f c.args.base (length c.args.file.now) c.symbol_layout-l.ensures c.requires).numaux

pub returns : goal.returns
unfolding entry_at
returns c = rw (← c.symbol_layout-l.ensures, c.read_name_field.ensures, c.read_field.ensures.value, c.read_field-2.ensures.value, c.read_field-3.ensures.value, c.read_field-4.ensures.value, c.read_field-5.ensures.value)
