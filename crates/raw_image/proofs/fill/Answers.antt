use Rattle.raw_image.proofs.Bytes.{filled}
use Rattle.raw_image.proofs.fill.Goals as goal

pub returns : goal.returns
returns c = filled _ _ _ _ _ _ c.requires.0 c.requires.1 c.copy_bytes.auto.dst c.copy_bytes.ensures c.clear_from.ensures
