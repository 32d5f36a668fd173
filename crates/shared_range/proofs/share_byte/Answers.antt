use mathlib.Core.Path.{sym, ◌∙◌}
use Rattle.shared_range.proofs.Shared.{first-empty, second_empty, both_ends, not-both}
use Rattle.shared_range.proofs.share_byte.Goals as goal

-- src/lib.rt:13:9
pub returns-then-a-eq0 : goal.returns-then-a-eq0
returns-then-a-eq0 c = first-empty _ _ c.if-a-eq0.true

-- src/lib.rt:16:9
pub returns-then-b-eq0 : goal.returns-then-b-eq0
returns-then-b-eq0 c = second_empty _ _ c.if-b-eq0.true

-- src/lib.rt:9:1
pub returns-then-ends_past : goal.returns-then-ends_past
returns-then-ends_past c = both_ends _ _ c.if-a-eq0.false c.if-b-eq0.false (sym c.ends_past.ensures ∙ c.if-ends_past.true) c.ends_past-then-ends_past.ensures

-- src/lib.rt:9:1
pub returns-else-ends_past : goal.returns-else-ends_past
returns-else-ends_past c = not-both _ _ c.if-a-eq0.false c.if-b-eq0.false c.ends_past.ensures c.if-ends_past.false
