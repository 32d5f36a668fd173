use Rattle.mend.specs.Entry.{mended_aux}
use mathlib.Core.Path.{refl}
use Rattle.mend_report.proofs.mended_aux.Goals as goal

pub returns-then-r : goal.returns-then-r
unfolding mended_aux
returns-then-r c = rw c.if-r.true refl

pub returns : goal.returns
unfolding mended_aux
returns c = rw c.if-r.false refl
