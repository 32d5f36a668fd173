use Rattle.address_table.specs.Table.{book_of}
use Rattle.address_fill.proofs.Laws.{no-import, no-file, an-import, name-inside}
use Rattle.address_fill.proofs.address_at.Goals as goal

pub returns-then-e-ne1 : goal.returns-then-e-ne1
returns-then-e-ne1 c = let a = c.args in no-import (book_of a.table.now) a.bench a.file.now a.f a.symbols a.strings a.k c.read_entry-e.ensures c.if-e-ne1.true

pub returns-then-e-eq0 : goal.returns-then-e-eq0
returns-then-e-eq0 c = let a = c.args in no-file (book_of a.table.now) a.bench a.file.now a.f a.symbols a.strings a.k c.read_entry-e.ensures c.if-e-ne1.false c.if-e-eq0.true

pub part_of-part-requires : goal.part_of-part-requires
part_of-part-requires c = let a = c.args in name-inside a.file.now a.f a.symbols a.strings a.k _ c.requires c.name_range-a.ensures

pub returns : goal.returns
returns c = let a = c.args in an-import (book_of a.table.now) a.bench a.file.now a.f a.symbols a.strings a.k c.read_entry-e.ensures c.if-e-ne1.false c.if-e-eq0.false c.name_range-a.ensures c.part_of-part.ensures c.address_for.ensures
