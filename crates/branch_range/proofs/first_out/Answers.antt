use Rattle.branch_range.proofs.first_out.Goals as goal

pub returns-then-a : goal.returns-then-a
returns-then-a c = c.by_order-a.ensures c.if-a.true
