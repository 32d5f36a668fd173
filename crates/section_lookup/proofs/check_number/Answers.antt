use borrow.Author.Tests.{eq-eqb, ne_eqb, lt-ltb, le-ltb}
use mathlib.Core.Path.{sym}
use Rattle.refusal.proofs.Order.{go_on, stop}
use Rattle.word.proofs.Test.{found}
use Rattle.section_lookup.specs.Lookup.{number_check}
use Rattle.section_lookup.proofs.check_number.Goals as goal

pub returns-then-is_err : goal.returns-then-is_err
returns-then-is_err c = sym (stop c.args.v _ (found c.is_err.ensures.value c.if-is_err.true))

pub returns-then-n-eq0 : goal.returns-then-n-eq0
unfolding number_check
returns-then-n-eq0 c = rw (go_on c.args.v _ (found c.is_err.ensures.value c.if-is_err.false), eq-eqb _ _ c.if-n-eq0.true)

pub returns-then-count-n : goal.returns-then-count-n
unfolding number_check
returns-then-count-n c = rw (go_on c.args.v _ (found c.is_err.ensures.value c.if-is_err.false), ne_eqb _ _ c.if-n-eq0.false, lt-ltb _ _ c.if-count-n.true)

pub returns : goal.returns
unfolding number_check
returns c = rw (go_on c.args.v _ (found c.is_err.ensures.value c.if-is_err.false), ne_eqb _ _ c.if-n-eq0.false, le-ltb _ _ c.if-count-n.false)
