use mathlib.Core.Path.{refl}
use native.Mathlib.Omega.{arith}
use borrow.Author.Tests.{lt-ltb, le-ltb, eq-eqb, ne_eqb}
use Rattle.table_replay.specs.Script.{fixed_of}
use Rattle.table_replay.proofs.fixed_of.Goals as goal

pub returns-then-kind-eq0-clause-count : goal.returns-then-kind-eq0-clause-count
unfolding fixed_of
returns-then-kind-eq0-clause-count c = rw (lt-ltb _ _ c.if-kind-lt3.true, eq-eqb _ 0 c.if-kind-eq0.true) refl

pub returns-then-kind-eq0-clause-few : goal.returns-then-kind-eq0-clause-few
unfolding fixed_of
returns-then-kind-eq0-clause-few c = (omega arith, omega arith)

pub returns-then-kind-lt3-clause-count : goal.returns-then-kind-lt3-clause-count
unfolding fixed_of
returns-then-kind-lt3-clause-count c = rw (lt-ltb _ _ c.if-kind-lt3.true, ne_eqb _ 0 c.if-kind-eq0.false) refl

pub returns-then-kind-lt3-clause-few : goal.returns-then-kind-lt3-clause-few
unfolding fixed_of
returns-then-kind-lt3-clause-few c = (omega arith, omega arith)

pub returns-clause-count : goal.returns-clause-count
unfolding fixed_of
returns-clause-count c = rw (le-ltb _ _ c.if-kind-lt3.false) refl

pub returns-clause-few : goal.returns-clause-few
unfolding fixed_of
returns-clause-few c = (omega arith, omega arith)
