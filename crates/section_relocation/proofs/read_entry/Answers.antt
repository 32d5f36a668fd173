use lib.ListN.{length}
use Rattle.section_relocation.specs.Entry.{entry_at}
use Rattle.section_relocation.proofs.Entries.{entry-inside}
use Rattle.section_relocation.proofs.read_entry.Goals as goal

pub read_field-requires : goal.read_field-requires
read_field-requires c = let a = c.args in (entry-inside a.f a.base (length a.file.now) c.entry_layout-l.ensures c.requires).address

pub read_field-requires-2 : goal.read_field-requires-2
read_field-requires-2 c = let a = c.args in (entry-inside a.f a.base (length a.file.now) c.entry_layout-l.ensures c.requires).symbol

pub read_field-requires-3 : goal.read_field-requires-3
read_field-requires-3 c = let a = c.args in (entry-inside a.f a.base (length a.file.now) c.entry_layout-l.ensures c.requires).rsize

pub read_field-requires-4 : goal.read_field-requires-4
read_field-requires-4 c = let a = c.args in (entry-inside a.f a.base (length a.file.now) c.entry_layout-l.ensures c.requires).rtype

pub returns : goal.returns
unfolding entry_at
returns c = rw (c.read_field.ensures.value, c.read_field-2.ensures.value, c.read_field-3.ensures.value, c.read_field-4.ensures.value, c.entry_layout-l.ensures)
