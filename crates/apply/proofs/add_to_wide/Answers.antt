use Rattle.std.proofs.Common.{true, false}
use Rattle.apply.proofs.Entries.{sign-added}
use Rattle.apply.proofs.add_to_wide.Goals as goal

pub returns-then-minus : goal.returns-then-minus
returns-then-minus c = sign-added true _ _ _ _ _ c.if-minus.true c.sub64.ensures

pub returns : goal.returns
returns c = sign-added false _ _ _ _ _ c.if-minus.false c.add64.ensures
