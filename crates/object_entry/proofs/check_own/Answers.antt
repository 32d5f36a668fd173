use Rattle.object_entry.proofs.Entries.{own-unheld, own-by, own-good}
use Rattle.object_entry.proofs.check_own.Goals as goal

pub returns-then-not-is_held : goal.returns-then-not-is_held
returns-then-not-is_held c = let a = c.args in rw c.name_of.ensures (own-unheld a.file.now a.t a.s a.i c.entry_in-e.ensures c.is_held.ensures c.if-not-is_held.true)

pub returns-then-is_read : goal.returns-then-is_read
returns-then-is_read c = let a = c.args in own-good a.file.now a.t a.s a.i c.entry_in-e.ensures c.is_held.ensures c.if-not-is_held.false c.symbol_in-a.ensures c.is_read.ensures c.if-is_read.true

pub returns : goal.returns
returns c = let a = c.args in rw c.name_of-2.ensures (own-by a.file.now a.t a.s a.i c.entry_in-e.ensures c.is_held.ensures c.if-not-is_held.false c.symbol_in-a.ensures c.is_read.ensures c.if-is_read.false)
