use Rattle.loadable.proofs.Accepted.{entries-ready}
use Rattle.loadable.specs.Loadable.{loadable_in, loadable_with}
use Rattle.word.proofs.Test.{found}
use Rattle.loadable.proofs.load.Goals as goal
use Rattle.refusal.proofs.Order.{handed}
use mathlib.Core.Path.{refl}

pub check_entries-requires : goal.check_entries-requires
check_entries-requires c = entries-ready _ c.args.m _ c.requires (found c.in_ok-tables.ensures refl)

pub returns-in_err-tables : goal.returns-in_err-tables
unfolding loadable_in loadable_with
returns-in_err-tables c = rw (handed c.from_residual.ensures) (rw (found c.in_err-tables.ensures refl))

pub returns-in_err-check_entries : goal.returns-in_err-check_entries
unfolding loadable_in loadable_with
returns-in_err-check_entries c = rw (handed c.from_residual-in_err-check_entries.ensures) (rw (found c.in_ok-tables.ensures refl, found c.in_err-check_entries.ensures refl))

pub returns : goal.returns
unfolding loadable_in loadable_with
returns c = rw (found c.in_ok-tables.ensures refl, found c.in_ok-check_entries.ensures refl)
