use mathlib.Core.Path.{refl}
use Rattle.word.proofs.Test.{found}
use Rattle.visibility.specs.Visibility.{is_unknown}
use Rattle.visibility.proofs.is_unknown.Goals as goal

pub returns-then-is_claimed : goal.returns-then-is_claimed
unfolding is_unknown
returns-then-is_claimed c = rw (found c.is_claimed.ensures c.if-is_claimed.true) refl

pub returns : goal.returns
unfolding is_unknown
returns c = rw (found c.is_claimed.ensures c.if-is_claimed.false) refl
