use Rattle.raw_image.proofs.Bytes.{filled-raw}
use Rattle.raw_image.proofs.fill_raw.Goals as goal

pub returns : goal.returns
returns c = filled-raw _ _ c.args.text.now c.args.«data».now _ _ c.requires.text_len.0 c.requires.text_len.1 c.fill.ensures c.fill-2.ensures
