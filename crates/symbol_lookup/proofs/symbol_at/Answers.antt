use mathlib.Core.Path.{◌∙◌}
use Rattle.symbol.proofs.Opened.{opened-tables}
use Rattle.symbol_lookup.proofs.Lookup.{at-refused, at-opened, symbol-reported}
use Rattle.symbol_lookup.proofs.symbol_at.Goals as goal
use Rattle.refusal.proofs.Order.{handed}

pub tables_of-t-requires : goal.tables_of-t-requires
tables_of-t-requires c = opened-tables c.args.file.now c.open-o.ensures.cause c.in_ok-o.was

pub returns-in_err-o : goal.returns-in_err-o
returns-in_err-o c = rw (handed c.from_residual.ensures) (let a = c.args in let told = symbol-reported _ _ (at-refused a.file.now a.i c.open-o.ensures.cause c.in_err-o.was) in record { cause = told.0; report = told.1 })

pub returns : goal.returns
returns c = let a = c.args in let told = symbol-reported _ _ (c.symbol_in.ensures ∙ at-opened a.file.now a.i c.tables_of-t.ensures) in record { cause = told.0; report = told.1 }
