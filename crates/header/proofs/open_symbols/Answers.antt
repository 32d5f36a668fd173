use mathlib.Core.Path.{◌∙◌, sym}
use Rattle.refusal.proofs.Order.{accepts}
use Rattle.word.proofs.Test.{found}
use Rattle.header.proofs.Answer.{opened-refused, opened-accepted}
use Rattle.header.specs.Open.{summary_with}
use Rattle.header.proofs.open_symbols.Goals as goal

pub returns-then-is_err : goal.returns-then-is_err
returns-then-is_err c = rw (← c.check_symbols-v.ensures) (c.refuse.ensures ∙ opened-refused c.check_symbols-v.result _ (found c.is_err.ensures.value c.if-is_err.true))

pub find_symbols-symbols-requires : goal.find_symbols-symbols-requires
find_symbols-symbols-requires c = (sym c.check_symbols-v.ensures ∙ accepts c.check_symbols-v.result (found c.is_err.ensures.value c.if-is_err.false), c.requires)

pub returns : goal.returns
unfolding summary_with
returns c = rw (← c.check_symbols-v.ensures, c.find_symbols-symbols.ensures) (opened-accepted c.check_symbols-v.result _ (found c.is_err.ensures.value c.if-is_err.false))
