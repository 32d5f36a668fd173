use Rattle.word.proofs.Test.{found}
use Rattle.relocation.specs.Relocation.{is_good}
use Rattle.relocation.proofs.is_good.Goals as goal

pub returns-then-not-is_type : goal.returns-then-not-is_type
unfolding is_good
returns-then-not-is_type c = rw (found c.is_type.ensures c.if-not-is_type.true)

pub returns-then-not-is_width : goal.returns-then-not-is_width
unfolding is_good
returns-then-not-is_width c = rw (found c.is_type.ensures c.if-not-is_type.false, found c.is_width.ensures c.if-not-is_width.true)

pub returns-then-not-is_held : goal.returns-then-not-is_held
unfolding is_good
returns-then-not-is_held c = rw (found c.is_type.ensures c.if-not-is_type.false, found c.is_width.ensures c.if-not-is_width.false, found c.is_held.ensures c.if-not-is_held.true)

pub returns : goal.returns
unfolding is_good
returns c = rw (found c.is_type.ensures c.if-not-is_type.false, found c.is_width.ensures c.if-not-is_width.false, found c.is_held.ensures c.if-not-is_held.false)
