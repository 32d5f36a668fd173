use Rattle.object.proofs.Sections.{held-text, held-data}
use Rattle.object.proofs.is_held_kind.Goals as goal

pub returns-then-flags-eq-TEXT : goal.returns-then-flags-eq-TEXT
returns-then-flags-eq-TEXT c = held-text c.args.k c.flags.ensures c.if-flags-eq-TEXT.true

pub returns : goal.returns
returns c = held-data c.args.k c.flags.ensures c.if-flags-eq-TEXT.false c.flags-2.ensures
