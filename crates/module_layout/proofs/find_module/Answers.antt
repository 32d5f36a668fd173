use mathlib.Core.Path.{ap}
use Rattle.word.proofs.Test.{found}
use Rattle.header.proofs.Accepted.{opened_inside}
use Rattle.module.specs.Module.{module_at}
use Rattle.module_layout.proofs.find_module.Goals as goal
use Rattle.refusal.proofs.Order.{handed}

pub module_in-requires : goal.module_in-requires
module_in-requires c = rw c.open-o.ensures.cause (opened_inside _ (found (ap (λ o. o.verdict) c.open-o.ensures.cause) c.in_ok-o.was))

pub returns-in_err-o : goal.returns-in_err-o
unfolding module_at
returns-in_err-o c = rw (handed c.from_residual.ensures) (rw (found (ap (λ o. o.verdict) c.open-o.ensures.cause) c.in_err-o.was))

pub returns : goal.returns
unfolding module_at
returns c = rw (found (ap (λ o. o.verdict) c.open-o.ensures.cause) c.in_ok-o.was, ← c.open-o.ensures.cause) c.module_in.ensures
