use Rattle.object_plan.specs.Shifts.{address_shifts}
use Rattle.branch.specs.Branch.{sum_of}
use Rattle.branch_range.proofs.Amounts.{amount-as}
use Rattle.branch_range.proofs.Known.{own-good, part-numbers}
use Rattle.branch_range.proofs.continue_word.Goals as goal

pub entry_at-e-requires : goal.entry_at-e-requires
entry_at-e-requires c = let a = c.args in let p = c.requires in (p.0.entries.tables, p.0.entries.ready, p.1, own-good a.file.now a.t a.s p.0 a.i p.1)

pub add_amount-requires : goal.add_amount-requires
add_amount-requires c = let a = c.args in let p = c.requires in let n = part-numbers a.file.now a.t a.s p.0 a.i p.1 c.entry_at-e.ensures in (p.2, p.3, n.0, n.1)

pub returns : goal.returns
returns c = let a = c.args in amount-as (address_shifts a.to.now a.from.now) (sum_of a.sum) c.entry_at-e.ensures c.add_amount.ensures
