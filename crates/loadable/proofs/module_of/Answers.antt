use mathlib.Core.Path.{ap}
use Rattle.loadable.specs.Loadable.{loadable_at, loadable_in, report_of_module}
use Rattle.module.proofs.Accepted.{module-inside}
use Rattle.word.proofs.Test.{found}
use Rattle.loadable.proofs.module_of.Goals as goal
use Rattle.refusal.proofs.Order.{handed}
use mathlib.Core.Path.{refl}

pub load-requires : goal.load-requires
load-requires c = module-inside _ _ (found c.in_ok-m.ensures refl)

pub returns-in_err-m-clause-cause : goal.returns-in_err-m-clause-cause
unfolding loadable_at loadable_in
returns-in_err-m-clause-cause c = rw (handed c.from_residual.ensures) (let h = found c.in_err-m.ensures refl in rw h)

pub returns-in_err-m-clause-report : goal.returns-in_err-m-clause-report
unfolding loadable_at loadable_in
returns-in_err-m-clause-report c = rw (handed c.from_residual.ensures) (let h = found c.in_err-m.ensures refl in rw h)

pub returns-clause-cause : goal.returns-clause-cause
unfolding loadable_at
returns-clause-cause c = let h = found c.in_ok-m.ensures refl in rw h c.load.ensures

pub returns-clause-report : goal.returns-clause-report
unfolding loadable_at
returns-clause-report c = let h = found c.in_ok-m.ensures refl in rw h (ap (report_of_module _) c.load.ensures)
