use mathlib.Core.Path.{sym, ◌∙◌}
use native.Mathlib.Omega.{arith}
use lib.ListN.{length}
use Rattle.address_table.specs.Table.{book_of}
use Rattle.address_fill.proofs.Laws.{fill_start, fill-next, fill_end}
use Rattle.address_fill.proofs.fill_list.Goals as goal

pub loop-k-init : goal.loop-k-init
loop-k-init c = let a = c.args in fill_start (book_of a.table.now) a.bench a.file.now a.f a.symbols a.strings a.list.now

pub loop-k-preserved : goal.loop-k-preserved
loop-k-preserved c = let a = c.args in fill-next (book_of a.table.now) a.bench a.file.now a.f a.symbols a.strings c.loop-k.list c.loop-k.k (length a.list.now) (omega arith) c.address_at.ensures ∙ c.loop-k.invariant

pub returns : goal.returns
returns c = let a = c.args in sym (fill_end (book_of a.table.now) a.bench a.file.now a.f a.symbols a.strings c.loop-k.list c.loop-k.k (length a.list.now) (omega arith)) ∙ c.loop-k.invariant
