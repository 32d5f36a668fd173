use lib.ListN.{length}
use native.Mathlib.Omega.{arith}
use Rattle.format.specs.Layout.{relocation_layout}
use Rattle.relocation.proofs.Entries.{entry_whole}
use Rattle.relocation.specs.Relocation.{entry_in}
use Rattle.relocation.proofs.entry_in.Goals as goal

pub overflow_mul-base : goal.overflow_mul-base
overflow_mul-base c = rw c.relocation_layout-l.ensures (let a = c.args in let h = entry_whole a.t.relocations.0 (relocation_layout a.f).length a.i a.t.nreloc (length a.file.now) c.requires.1 c.requires.0.inside in let s = c.requires.0.small in omega arith)

pub overflow_add-base : goal.overflow_add-base
overflow_add-base c = rw c.relocation_layout-l.ensures (let a = c.args in let h = entry_whole a.t.relocations.0 (relocation_layout a.f).length a.i a.t.nreloc (length a.file.now) c.requires.1 c.requires.0.inside in let s = c.requires.0.small in omega arith)

pub read_entry-requires : goal.read_entry-requires
read_entry-requires c = rw c.relocation_layout-l.ensures (let a = c.args in entry_whole a.t.relocations.0 (relocation_layout a.f).length a.i a.t.nreloc (length a.file.now) c.requires.1 c.requires.0.inside)

pub returns : goal.returns
unfolding entry_in
returns c = rw (c.read_entry.ensures, c.relocation_layout-l.ensures)
