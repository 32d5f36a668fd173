use mathlib.Core.Path.{refl}
use native.Mathlib.Omega.{arith}
use borrow.Author.Tests.{lt-ltb, le-ltb}
use Rattle.address_table.specs.Table.{taken_in}
use Rattle.address_table.proofs.taken.Goals as goal

pub returns-then-n-lt512-clause-count : goal.returns-then-n-lt512-clause-count
unfolding taken_in
returns-then-n-lt512-clause-count c = rw (lt-ltb _ _ c.if-n-lt512.true) refl

pub returns-then-n-lt512-clause-few : goal.returns-then-n-lt512-clause-few
unfolding taken_in
returns-then-n-lt512-clause-few c = omega arith

pub returns-clause-count : goal.returns-clause-count
unfolding taken_in
returns-clause-count c = rw (le-ltb _ _ c.if-n-lt512.false) refl

pub returns-clause-few : goal.returns-clause-few
unfolding taken_in
returns-clause-few c = omega arith
