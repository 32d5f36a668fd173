use Rattle.mend.proofs.Put.{put_on, put-off}
use mathlib.Core.Path.{◌∙◌}
use Rattle.mend.proofs.put_if.Goals as goal

pub returns-then-on : goal.returns-then-on
returns-then-on c = c.put_number.ensures ∙ put_on _ _ _ _ _ c.if-on.true

pub returns-else-on : goal.returns-else-on
returns-else-on c = put-off _ _ _ _ _ c.if-on.false
