use mathlib.Core.Path.{refl}
use Rattle.visibility.specs.Visibility.{is_claimed}
use Rattle.visibility.proofs.is_claimed.Goals as goal

pub returns-then-version2 : goal.returns-then-version2
unfolding is_claimed
returns-then-version2 c = rw c.if-version2.true c.is_csect_class.ensures

pub returns : goal.returns
unfolding is_claimed
returns c = rw c.if-version2.false refl
