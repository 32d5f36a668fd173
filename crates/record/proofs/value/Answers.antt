use Rattle.record.specs.Record.{digit_in}
use mathlib.Core.Path.{refl}
use native.Mathlib.Omega.{arith}
use Rattle.record.proofs.value.Goals as goal

pub returns : goal.returns
unfolding digit_in
returns c = (refl, omega arith)
