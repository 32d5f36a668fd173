use Rattle.replay.proofs.Plans.{built-plan, plan-addresses}
use Rattle.replay_calls.proofs.do_build.Goals as goal

pub addresses_at-addresses-requires : goal.addresses_at-addresses-requires
addresses_at-addresses-requires c = plan-addresses c.args.s.now c.args.at c.requires

pub returns : goal.returns
returns c = let told = built-plan _ _ _ _ _ _ _ _ _ _ c.addresses_at-addresses.ensures c.imports_at-imports.ensures (c.build_images.ensures.cause, c.build_images.ensures.images) in record { cause = told.0; images = told.1 }
