use Rattle.symbol.proofs.Opened.{opened-tables}
use Rattle.salvage.proofs.Answer.{open-refused, shared-asked, shared-refused, none-shared, salvage-refused, salvage-done}
use Rattle.salvage_file.proofs.salvage.Goals as goal
use Rattle.refusal.proofs.Order.{handed}

pub is_shared-requires : goal.is_shared-requires
is_shared-requires c = shared-asked c.args.file.now c.open-o.ensures.cause c.in_ok-o.was

pub returns-then-is_shared : goal.returns-then-is_shared
returns-then-is_shared c = let a = c.args in let f = a.file.now in let told = salvage-refused f a.copy.now a.report.now (shared-refused f c.open-o.ensures.cause c.in_ok-o.was c.is_shared.ensures c.if-is_shared.true) in record { cause = told.0; answer = told.1.0; copied = told.1.1.0; reported = told.1.1.1 }

pub tables_of-t-requires : goal.tables_of-t-requires
tables_of-t-requires c = opened-tables c.args.file.now c.open-o.ensures.cause c.in_ok-o.was

pub returns-in_err-o : goal.returns-in_err-o
returns-in_err-o c = rw (handed c.from_residual.ensures) (let a = c.args in let f = a.file.now in let told = salvage-refused f a.copy.now a.report.now (open-refused f c.open-o.ensures.cause c.in_err-o.was) in record { cause = told.0; answer = told.1.0; copied = told.1.1.0; reported = told.1.1.1 })

pub returns : goal.returns
returns c = let a = c.args in let f = a.file.now in let s = c.salvage_tables.ensures in let told = salvage-done f a.copy.now a.report.now c.tables_of-t.ensures (none-shared f c.open-o.ensures.cause c.in_ok-o.was c.is_shared.ensures c.if-is_shared.false) s.answer s.mended s.reported in record { cause = told.0; answer = told.1.0; copied = told.1.1.0; reported = told.1.1.1 }
