-- A number of 64 bits has at most 20 places, so there is room.
use Rattle.text.proofs.Number.{places-short, length-decimal}
use Rattle.text.specs.Text.{decimal}
use native.Mathlib.Omega.{arith}
use Rattle.text.proofs.put_decimal.Goals as goal

pub put_digits-requires-clause-le_base : goal.put_digits-requires-clause-le_base
put_digits-requires-clause-le_base c = omega (arith, places-short c.args.v (omega arith))

pub put_digits-requires-clause-count_bound : goal.put_digits-requires-clause-count_bound
put_digits-requires-clause-count_bound c = omega (arith, places-short c.args.v (omega arith))

pub overflow_add-result : goal.overflow_add-result
overflow_add-result c = omega (arith, places-short c.args.v (omega arith))

pub returns-clause-next : goal.returns-clause-next
unfolding decimal
returns-clause-next c = let a = c.args in omega (arith, length-decimal a.v)

pub returns-clause-text : goal.returns-clause-text
unfolding decimal
returns-clause-text c = let a = c.args in rw c.count_places-count.ensures at c.put_digits.ensures

pub returns-clause-short : goal.returns-clause-short
unfolding decimal
returns-clause-short c = let a = c.args in omega (arith, places-short a.v (omega arith))
