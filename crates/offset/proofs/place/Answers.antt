use mathlib.Core.Path.{refl}
use native.Mathlib.Omega.{arith}
use Rattle.word.proofs.Test.{found, past-not}
use Rattle.offset.proofs.place.Goals as goal

pub returns-then-ends_past : goal.returns-then-ends_past
returns-then-ends_past c = rw (found c.ends_past.ensures c.if-ends_past.true) refl

pub overflow_add-result : goal.overflow_add-result
overflow_add-result c = let a = c.args in omega (arith, past-not a.start a.off a.len (found c.ends_past.ensures c.if-ends_past.false))

pub returns : goal.returns
returns c = rw (found c.ends_past.ensures c.if-ends_past.false) refl
