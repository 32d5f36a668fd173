-- The digits from i on stand in the buffer, and what is left of v is its quotient by the base to their number.
use Rattle.std.proofs.Common.{rules}
use Rattle.text.proofs.Stores.{digit-before}
use native.Mathlib.Nat.{pow-zero, sub_self, div-one}
use Rattle.text.proofs.Number.{quotient-next}
use Rattle.text.specs.Text.{digits}
use Rattle.text.proofs.put_digits.Goals as goal

pub loop-i-init : goal.loop-i-init
unfolding digits
loop-i-init c = (rw sub_self, rw (sub_self, pow-zero, div-one))

pub loop-i-preserved : goal.loop-i-preserved
loop-i-preserved c = let a = c.args in (rw (c.digit.ensures, c.loop-i.invariant.1, c.loop-i.invariant.0) (digit-before a.out.now a.at a.base a.count c.loop-i.i a.v (search rules) (search rules)), rw c.loop-i.invariant.1 (quotient-next a.v a.base a.count c.loop-i.i (search rules) (search rules)))
