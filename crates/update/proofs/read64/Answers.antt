use Rattle.std.proofs.Common.{arith}
use Rattle.word.proofs.Number.{field-split}
use Rattle.update.proofs.read64.Goals as goal

pub returns : goal.returns
returns c = let a = c.args in omega (arith, field-split 4 4 a.off a.s.now c.requires)
