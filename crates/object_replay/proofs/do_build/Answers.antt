use Rattle.object_replay.specs.Script.{plan_at}
use Rattle.object_replay.proofs.Answer.{built-plan}
use Rattle.object_replay.proofs.do_build.Goals as goal

pub returns : goal.returns
returns c = let a = c.args in let told = built-plan _ _ _ _ _ (plan_at a.s.now a.at) c.plan_at-plan.ensures (c.build_object.ensures.cause, c.build_object.ensures.image) in record { cause = told.0; image = told.1 }
