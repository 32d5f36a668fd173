use Rattle.std.proofs.Common.{arith}
use Rattle.apply.proofs.Stands.{implicit-stands}
use Rattle.apply.proofs.shift_of.Goals as goal

pub loader_shift-requires-clause-valid : goal.loader_shift-requires-clause-valid
loader_shift-requires-clause-valid c = let h = c.requires in (h.valid.0, omega (arith, c.in_default.in_default-own.rest), h.valid.1)

pub loader_shift-requires-clause-from_len : goal.loader_shift-requires-clause-from_len
loader_shift-requires-clause-from_len c = let h = c.requires in (h.from_len.0, h.from_len.1)

pub returns-in-0 : goal.returns-in-0
returns-in-0 c = rw c.in-0.is (λ p q f t h. implicit-stands _ _ _ p q 0 (omega arith) h)

pub returns-in-1 : goal.returns-in-1
returns-in-1 c = rw c.in-1.is (λ p q f t h. implicit-stands _ _ _ p q 1 (omega arith) h)

pub returns-in-2 : goal.returns-in-2
returns-in-2 c = rw c.in-2.is (λ p q f t h. implicit-stands _ _ _ p q 2 (omega arith) h)

pub returns-in_default : goal.returns-in_default
returns-in_default c = c.loader_shift.ensures
