use Rattle.module.proofs.Extent.{parts-image}
use Rattle.module.specs.Module.{module_with}
use Rattle.module_layout.proofs.module_with.Goals as goal

pub image_length-requires : goal.image_length-requires
image_length-requires c = parts-image c.args.p c.args.a c.requires

pub returns : goal.returns
unfolding module_with
returns c = rw c.image_length.ensures
