use Rattle.apply.proofs.Formats.{known-format}
use Rattle.apply_all.proofs.with_format.Goals as goal

pub returns : goal.returns
returns c = known-format c.args.l c.requires
