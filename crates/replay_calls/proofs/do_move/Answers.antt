use Rattle.script.proofs.Plans.{next-there}
use Rattle.replay.proofs.Plans.{moved-plans, plan-addresses}
use Rattle.replay_calls.proofs.do_move.Goals as goal

pub addresses_at-from-requires : goal.addresses_at-from-requires
addresses_at-from-requires c = plan-addresses c.args.s.now c.args.at c.requires.0

pub addresses_at-to-requires : goal.addresses_at-to-requires
addresses_at-to-requires c = plan-addresses c.args.s.now c.plan_end-next.result (next-there 2 _ _ _ c.plan_end-next.ensures c.requires.1)

pub imports_at-to_imports-requires : goal.imports_at-to_imports-requires
imports_at-to_imports-requires c = next-there 2 _ _ _ c.plan_end-next.ensures c.requires.1

pub returns : goal.returns
returns c = let told = moved-plans _ _ _ _ _ _ _ _ _ _ _ _ _ c.plan_end-next.ensures c.addresses_at-from.ensures c.imports_at-from_imports.ensures c.addresses_at-to.ensures c.imports_at-to_imports.ensures (c.move_images.ensures.cause, c.move_images.ensures.images) in record { cause = told.0; images = told.1 }
