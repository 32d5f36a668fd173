use mathlib.Core.Path.{◌∙◌, ap}
use Rattle.symbol.proofs.Opened.{opened-tables}
use Rattle.walk.proofs.Steps.{walk_refused, walk-ended, walk-reported}
use Rattle.walk.proofs.walk.Goals as goal
use Rattle.std.specs.Prelude.{Ok}
use Rattle.refusal.proofs.Order.{handed}

pub tables_of-t-requires : goal.tables_of-t-requires
tables_of-t-requires c = opened-tables c.args.file.now c.open-o.ensures.cause c.in_ok-o.was

pub returns-in_err-o : goal.returns-in_err-o
returns-in_err-o c = rw (handed c.from_residual.ensures) (let told = walk-reported _ (walk_refused c.args.file.now c.open-o.ensures.cause c.in_err-o.was) in record { cause = told.0; report = told.1 })

pub returns : goal.returns
returns c = let told = walk-reported _ (ap Ok c.walk_tables.ensures ∙ walk-ended c.args.file.now c.tables_of-t.ensures) in record { cause = told.0; report = told.1 }
