use lib.ListN.{length}
use native.Mathlib.Omega.{arith}
use Rattle.table_kind.specs.declared.TableKind.TheVariants.{Relocations}
use Rattle.table_kind.proofs.Places.{entry-within}
use Rattle.section_relocation.specs.Entry.{entry_in}
use Rattle.section_relocation.proofs.entry_in.Goals as goal

pub overflow_mul-base : goal.overflow_mul-base
overflow_mul-base c = rw c.entry_length.ensures (let a = c.args in let h = entry-within Relocations a.f a.s.table.0 a.i a.s.count (length a.file.now) c.requires.1 c.requires.0.table in let q = c.requires.0.small in omega arith)

pub overflow_add-base : goal.overflow_add-base
overflow_add-base c = rw c.entry_length.ensures (let a = c.args in let h = entry-within Relocations a.f a.s.table.0 a.i a.s.count (length a.file.now) c.requires.1 c.requires.0.table in let q = c.requires.0.small in omega arith)

pub read_entry-requires : goal.read_entry-requires
read_entry-requires c = rw c.entry_length.ensures (let a = c.args in entry-within Relocations a.f a.s.table.0 a.i a.s.count (length a.file.now) c.requires.1 c.requires.0.table)

pub returns : goal.returns
unfolding entry_in
returns c = rw (c.read_entry.ensures, c.entry_length.ensures)
