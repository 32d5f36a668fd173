use Rattle.std.proofs.Common.{arith}
use Rattle.apply.proofs.Stands.{import-built, import-moved}
use Rattle.apply.proofs.import_shift.Goals as goal

pub returns-then-moving : goal.returns-then-moving
returns-then-moving c = λ m p q. import-moved m p q _ _ _ _ _ _ (omega arith) c.if-moving.true c.wrapping_sub_u64.ensures.value

pub returns : goal.returns
returns c = λ m p q f. import-built m p q _ _ _ _ _ (omega arith) c.if-moving.false c.wrapping_sub_u64-2.ensures.value
