use Rattle.record.specs.Record.{byte_in}
use mathlib.Core.Path.{refl}
use Rattle.record.proofs.byte_at.Goals as goal

pub returns : goal.returns
unfolding byte_in
returns c = rw (c.value.ensures.0, c.value-2.ensures.0) refl
