use mathlib.Core.Path.{refl}
use borrow.Author.Tests.{lt-ltb, le-ltb}
use Rattle.table_replay.proofs.cut_length.Goals as goal

pub returns-then-n-lt33 : goal.returns-then-n-lt33
returns-then-n-lt33 c = rw (lt-ltb _ _ c.if-n-lt33.true) refl

pub returns : goal.returns
returns c = rw (le-ltb _ _ c.if-n-lt33.false) refl
