use Rattle.symbol.proofs.Opened.{opened-tables}
use Rattle.salvage.proofs.Answer.{open-refused, shared-asked, shared-refused, none-shared, count-told, count-refused, counted}
use Rattle.salvage_file.proofs.salvage_count.Goals as goal
use Rattle.refusal.proofs.Order.{handed}

pub is_shared-requires : goal.is_shared-requires
is_shared-requires c = shared-asked c.args.file.now c.open-o.ensures.cause c.in_ok-o.was

pub returns-then-is_shared : goal.returns-then-is_shared
returns-then-is_shared c = let f = c.args.file.now in let told = count-told f (count-refused f (shared-refused f c.open-o.ensures.cause c.in_ok-o.was c.is_shared.ensures c.if-is_shared.true)) in record { cause = told.0; report = told.1 }

pub tables_of-t-requires : goal.tables_of-t-requires
tables_of-t-requires c = opened-tables c.args.file.now c.open-o.ensures.cause c.in_ok-o.was

pub returns-in_err-o : goal.returns-in_err-o
returns-in_err-o c = rw (handed c.from_residual.ensures) (let f = c.args.file.now in let told = count-told f (count-refused f (open-refused f c.open-o.ensures.cause c.in_err-o.was)) in record { cause = told.0; report = told.1 })

pub returns : goal.returns
returns c = let f = c.args.file.now in let told = count-told f (counted f c.tables_of-t.ensures (none-shared f c.open-o.ensures.cause c.in_ok-o.was c.is_shared.ensures c.if-is_shared.false) c.count_tables.ensures.value) in record { cause = told.0; report = told.1 }
