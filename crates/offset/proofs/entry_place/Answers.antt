use mathlib.Core.Path.{refl}
use native.Mathlib.Omega.{arith}
use Rattle.word.proofs.Test.{found, past-not}
use Rattle.offset.proofs.Places.{entry_past, entry-small, entry-before}
use Rattle.offset.proofs.entry_place.Goals as goal

pub returns-then-len-k : goal.returns-then-len-k
returns-then-len-k c = let a = c.args in entry_past a.len a.start a.size a.k c.requires.1 c.if-len-k.true

pub overflow_mul-k : goal.overflow_mul-k
overflow_mul-k c = let a = c.args in omega (arith, entry-small a.len a.start a.size a.k c.requires.0 c.requires.2 c.if-len-k.false)

pub returns-then-ends_past : goal.returns-then-ends_past
returns-then-ends_past c = rw (found c.ends_past.ensures c.if-ends_past.true) refl

pub overflow_mul-result : goal.overflow_mul-result
overflow_mul-result c = let a = c.args in omega (arith, entry-small a.len a.start a.size a.k c.requires.0 c.requires.2 c.if-len-k.false, entry-before a.len a.start a.size a.k)

pub overflow_add-result : goal.overflow_add-result
overflow_add-result c = let a = c.args in omega (arith, entry-before a.len a.start a.size a.k, past-not a.start _ a.len (found c.ends_past.ensures c.if-ends_past.false))

pub returns : goal.returns
returns c = rw (found c.ends_past.ensures c.if-ends_past.false) refl
