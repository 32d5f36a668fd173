use mathlib.Core.Path.{ap}
use mathlib.Core.Path.{◌∙◌}
use Rattle.symbol.proofs.Opened.{opened-tables}
use Rattle.symbol_lookup.proofs.Lookup.{name-opened, name-refused}
use Rattle.offset.specs.Report.{report_of_range}
use Rattle.symbol_lookup.proofs.symbol_name_range.Goals as goal
use Rattle.refusal.proofs.Order.{handed}

pub tables_of-t-requires : goal.tables_of-t-requires
tables_of-t-requires c = opened-tables c.args.file.now c.open-o.ensures.cause c.in_ok-o.was

pub returns-in_err-o-clause-cause : goal.returns-in_err-o-clause-cause
returns-in_err-o-clause-cause c = rw (handed c.from_residual.ensures) (let a = c.args in name-refused a.file.now a.i c.open-o.ensures.cause c.in_err-o.was)

pub returns-in_err-o-clause-report : goal.returns-in_err-o-clause-report
returns-in_err-o-clause-report c = ap (report_of_range _) (returns-in_err-o-clause-cause c)

pub returns-clause-cause : goal.returns-clause-cause
returns-clause-cause c = let a = c.args in c.name_in.ensures ∙ name-opened a.file.now a.i c.tables_of-t.ensures

pub returns-clause-report : goal.returns-clause-report
returns-clause-report c = ap (report_of_range _) (returns-clause-cause c)
