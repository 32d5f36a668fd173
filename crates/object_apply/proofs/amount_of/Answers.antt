use Rattle.object_plan.specs.Shifts.{address_shifts}
use Rattle.std.proofs.Common.{arith}
use Rattle.object_apply.proofs.Amounts.{plus-told, minus-told, relative-told}
use Rattle.object_apply.proofs.amount_of.Goals as goal

pub returns-in-Plus : goal.returns-in-Plus
returns-in-Plus c = let a = c.args in let s = address_shifts a.to.now a.from.now in plus-told (s a.e.symbol) (s a.e.name.section.0) c.shift_of-z.ensures c.in-Plus.is

pub returns-in-Minus : goal.returns-in-Minus
returns-in-Minus c = let a = c.args in let s = address_shifts a.to.now a.from.now in minus-told (s a.e.symbol) (s a.e.name.section.0) c.shift_of-z.ensures c.in-Minus.is (omega arith) c.wrapping_sub_u64.ensures.value

pub returns-in-Relative : goal.returns-in-Relative
returns-in-Relative c = let a = c.args in let s = address_shifts a.to.now a.from.now in relative-told (s a.e.symbol) (s a.e.name.section.0) c.shift_of-z.ensures _ c.in-Relative.is c.shift_of.ensures (omega arith) c.wrapping_sub_u64-in-Relative.ensures.value
