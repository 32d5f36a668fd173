-- The digits that `put_digits` stores are `count` in number.
use Rattle.text.proofs.Number.{length-hex}
use Rattle.text.specs.Text.{hex}
use native.Mathlib.Omega.{arith}
use Rattle.text.proofs.put_hex.Goals as goal

pub returns-clause-next : goal.returns-clause-next
unfolding hex
returns-clause-next c = let a = c.args in omega (arith, length-hex a.count a.v)

pub returns-clause-text : goal.returns-clause-text
unfolding hex
returns-clause-text c = let a = c.args in c.put_digits.ensures
