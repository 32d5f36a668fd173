use Rattle.displacement.proofs.Anchors.{both-reached}
use Rattle.displacement.proofs.reach.Goals as goal

pub returns : goal.returns
returns c = both-reached _ _ _ _ c.move_anchor.ensures c.move_anchor-2.ensures
