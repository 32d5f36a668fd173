use mathlib.Core.Path.{ap}
use Rattle.line_lookup.specs.Lookup.{report_of_count}
use Rattle.line_lookup.proofs.Tables.{open-refused, open-accepted, opened-few}
use Rattle.line_find.proofs.find_line_table.Goals as goal
use Rattle.refusal.proofs.Order.{handed}

pub line_table_in-requires : goal.line_table_in-requires
line_table_in-requires c = opened-few c.args.file.now c.open-o.ensures.cause c.in_ok-o.was

pub returns-in_err-o-clause-cause : goal.returns-in_err-o-clause-cause
returns-in_err-o-clause-cause c = rw (handed c.from_residual.ensures) (let a = c.args in open-refused a.file.now a.n _ c.open-o.ensures.cause c.in_err-o.was)

pub returns-in_err-o-clause-report : goal.returns-in_err-o-clause-report
returns-in_err-o-clause-report c = ap (report_of_count _) (returns-in_err-o-clause-cause c)

pub returns-clause-cause : goal.returns-clause-cause
returns-clause-cause c = let a = c.args in open-accepted a.file.now a.n c.open-o.ensures.cause c.in_ok-o.was c.line_table_in.ensures

pub returns-clause-report : goal.returns-clause-report
returns-clause-report c = ap (report_of_count _) (returns-clause-cause c)
