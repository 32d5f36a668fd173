use Rattle.table_replay.proofs.Made.{made-add, made-remove, made-look}
use Rattle.table_replay.proofs.call_row.Goals as goal

pub returns-then-kind-eq0 : goal.returns-then-kind-eq0
returns-then-kind-eq0 c = let told = made-add _ _ _ _ c.if-kind-eq0.true c.table_add.ensures.cause c.number_of.ensures c.table_add.ensures.table in record { answer = told.0; table = told.1 }

pub returns-then-kind-eq1 : goal.returns-then-kind-eq1
returns-then-kind-eq1 c = let told = made-remove _ _ _ _ c.if-kind-eq0.false c.if-kind-eq1.true c.table_remove.ensures.cause c.number_of-then-kind-eq1.ensures c.table_remove.ensures.table in record { answer = told.0; table = told.1 }

pub returns : goal.returns
returns c = let told = made-look _ _ _ _ c.if-kind-eq0.false c.if-kind-eq1.false c.table_find.ensures.cause in record { answer = told.0; table = told.1 }
