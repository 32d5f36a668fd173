use Rattle.shared_parts.proofs.Lists.{either-shared, first-shared}
use Rattle.shared_parts.proofs.shares.Goals as goal

pub share_parts-requires : goal.share_parts-requires
share_parts-requires c = c.requires.0

pub share_tables-requires : goal.share_tables-requires
share_tables-requires c = c.requires.1

pub returns-then-share_parts : goal.returns-then-share_parts
returns-then-share_parts c = first-shared _ _ _ c.share_parts.ensures c.if-share_parts.true

pub returns-else-share_parts : goal.returns-else-share_parts
returns-else-share_parts c = either-shared _ _ _ c.share_parts.ensures c.if-share_parts.false c.share_tables.ensures
