-- Each division takes one place away, and what is left at the end has one.
use Rattle.text.proofs.Number.{places-one, places-more, places-short}
use native.Mathlib.Omega.{arith}
use Rattle.text.proofs.count_places.Goals as goal

pub loop-rest-init : goal.loop-rest-init
loop-rest-init c = omega arith

pub overflow_add-n : goal.overflow_add-n
overflow_add-n c = omega (arith, places-short c.args.v (omega arith))

pub loop-rest-smaller : goal.loop-rest-smaller
loop-rest-smaller c = omega arith

pub loop-rest-preserved : goal.loop-rest-preserved
loop-rest-preserved c = omega (arith, places-more c.loop-rest.rest (omega arith))

pub returns : goal.returns
returns c = omega (arith, places-one c.loop-rest.rest (omega arith))
