use mathlib.Core.Path.{refl}
use Rattle.word.proofs.Test.{found}
use Rattle.visibility.specs.Visibility.{visibility_of}
use Rattle.visibility.proofs.visibility_of.Goals as goal

pub returns-then-is_claimed : goal.returns-then-is_claimed
unfolding visibility_of
returns-then-is_claimed c = rw (found c.is_claimed.ensures c.if-is_claimed.true) refl

pub returns : goal.returns
unfolding visibility_of
returns c = rw (found c.is_claimed.ensures c.if-is_claimed.false) refl
