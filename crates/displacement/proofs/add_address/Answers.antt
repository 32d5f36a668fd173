use Rattle.displacement.proofs.Anchors.{sum-32, sum_64}
use Rattle.displacement.proofs.add_address.Goals as goal

pub returns-in-Xcoff32 : goal.returns-in-Xcoff32
returns-in-Xcoff32 c = sum-32 _ _ _ _ c.in-Xcoff32.is c.wrapping_add_u64-sum.ensures.value

pub returns-in-Xcoff64 : goal.returns-in-Xcoff64
returns-in-Xcoff64 c = sum_64 _ _ _ _ c.in-Xcoff64.is c.wrapping_add_u64-sum.ensures.value
