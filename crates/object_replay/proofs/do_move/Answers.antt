use Rattle.script.proofs.Plans.{next-there}
use Rattle.object_replay.proofs.Answer.{moved-plans}
use Rattle.object_replay.proofs.do_move.Goals as goal

pub plan_at-to-requires : goal.plan_at-to-requires
plan_at-to-requires c = let a = c.args in next-there 0 a.s.now a.at _ c.plan_end-next.ensures c.requires.1

pub returns : goal.returns
returns c = let a = c.args in let told = moved-plans _ _ _ _ a.s.now a.at _ _ _ c.plan_end-next.ensures c.plan_at-from.ensures c.plan_at-to.ensures (c.move_object.ensures.cause, c.move_object.ensures.image) in record { cause = told.0; image = told.1 }
