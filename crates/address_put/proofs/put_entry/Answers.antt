use native.Mathlib.Omega.{arith}
use lib.ListN.{length}
use Rattle.format.specs.Layout.{relocation_layout}
use Rattle.relocation.proofs.Entries.{entry_whole}
use Rattle.address_put.proofs.New.{entry_at_lem, entry-in-list, entry-put}
use Rattle.address_put.proofs.put_entry.Goals as goal

pub entry_in-e-requires : goal.entry_in-e-requires
entry_in-e-requires c = (c.requires.0.entries, c.requires.1)

pub overflow_mul-base : goal.overflow_mul-base
overflow_mul-base c = rw c.relocation_layout-r.ensures (let w = entry_whole c.args.l.tables.relocations.0 (relocation_layout c.args.l.layout.format).length c.args.i c.args.l.tables.nreloc (length c.args.file.now) c.requires.1 c.requires.0.entries.inside in let s = c.requires.0.entries.small in omega arith)

pub overflow_add-base : goal.overflow_add-base
overflow_add-base c = rw c.relocation_layout-r.ensures (let w = entry_whole c.args.l.tables.relocations.0 (relocation_layout c.args.l.layout.format).length c.args.i c.args.l.tables.nreloc (length c.args.file.now) c.requires.1 c.requires.0.entries.inside in let s = c.requires.0.entries.small in omega arith)

pub put_address-requires : goal.put_address-requires
put_address-requires c = (entry_at_lem c.args.l.layout.format _ _ _ _ c.relocation_layout-r.ensures c.requires.1 c.requires.0.entries.inside, c.requires.2, entry-in-list _ _ _ c.entry_follows.ensures)

pub returns : goal.returns
returns c = λ m p g l h. entry-put _ _ _ _ _ _ c.relocation_layout-r.ensures c.entry_in-e.ensures c.entry_follows.ensures (c.put_address.ensures m p g l h)
