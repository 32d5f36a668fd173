use Rattle.shared_parts.proofs.Lists.{none-without, none-at-end, four, stated}
use Rattle.shared_parts.proofs.strings_size.Goals as goal

pub returns-then-symbols-eq0 : goal.returns-then-symbols-eq0
returns-then-symbols-eq0 c = none-without _ _ c.if-symbols-eq0.true

pub returns-then-start-len : goal.returns-then-start-len
returns-then-start-len c = none-at-end _ _ c.if-symbols-eq0.false c.if-start-len.true

pub returns-then-strings-eq0 : goal.returns-then-strings-eq0
returns-then-strings-eq0 c = four _ _ c.if-symbols-eq0.false c.if-start-len.false c.if-strings-eq0.true

pub returns : goal.returns
returns c = stated _ _ c.if-symbols-eq0.false c.if-start-len.false c.if-strings-eq0.false
