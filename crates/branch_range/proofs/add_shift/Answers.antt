use lib.IntN.{pos, neg_ℤ}
use Rattle.branch_range.proofs.Amounts.{add-both}
use Rattle.branch_range.proofs.add_shift.Goals as goal

pub returns : goal.returns
returns c = let a = c.args in add-both _ (pos a.a) (neg_ℤ (pos a.b)) c.plus-x.ensures c.minus.ensures
