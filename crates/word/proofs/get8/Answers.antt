use mathlib.Core.Path.{sym}
use Rattle.word.proofs.Number.{field-one}
use Rattle.word.proofs.get8.Goals as goal

pub returns : goal.returns
returns c = sym (field-one c.args.off c.args.s.now c.requires)
