use borrow.Author.Tests.{le-leb, lt-leb}
use Rattle.word.proofs.Test.{found}
use Rattle.relocation.specs.Relocation.{own_at, own_check}
use Rattle.relocation.proofs.check_own.Goals as goal

pub returns-then-e-ge4294967294 : goal.returns-then-e-ge4294967294
unfolding own_at own_check
returns-then-e-ge4294967294 c = rw (le-leb 0xFFFFFFFE _ (rw c.entry_in-e.ensures at c.if-e-ge4294967294.true))

pub returns-then-is_good : goal.returns-then-is_good
unfolding own_at own_check
returns-then-is_good c = rw (lt-leb 0xFFFFFFFE _ (rw c.entry_in-e.ensures at c.if-e-ge4294967294.false), found (rw c.entry_in-e.ensures at c.is_good.ensures) c.if-is_good.true)

pub returns : goal.returns
unfolding own_at own_check
returns c = rw (lt-leb 0xFFFFFFFE _ (rw c.entry_in-e.ensures at c.if-e-ge4294967294.false), found (rw c.entry_in-e.ensures at c.is_good.ensures) c.if-is_good.false)
