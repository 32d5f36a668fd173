use mathlib.Core.Path.{ap}
use Rattle.word.proofs.Test.{found}
use Rattle.line_lookup.specs.Lookup.{report_of_line}
use Rattle.line_lookup.proofs.Tables.{table-within, line_refused, line-found}
use Rattle.line_find.proofs.find_line.Goals as goal
use Rattle.refusal.proofs.Order.{handed}
use mathlib.Core.Path.{refl}

pub find_in-requires : goal.find_in-requires
find_in-requires c = table-within c.args.file.now c.args.n (found c.in_ok-t.ensures.cause refl)

pub returns-in_err-t-clause-cause : goal.returns-in_err-t-clause-cause
returns-in_err-t-clause-cause c = rw (handed c.from_residual.ensures) (let a = c.args in line_refused a.file.now a.n a.address _ c.in_err-t.ensures.cause refl)

pub returns-in_err-t-clause-report : goal.returns-in_err-t-clause-report
returns-in_err-t-clause-report c = ap (report_of_line _) (returns-in_err-t-clause-cause c)

pub returns-clause-cause : goal.returns-clause-cause
returns-clause-cause c = let a = c.args in line-found a.file.now a.n a.address c.in_ok-t.ensures.cause refl c.find_in.ensures

pub returns-clause-report : goal.returns-clause-report
returns-clause-report c = ap (report_of_line _) (returns-clause-cause c)
