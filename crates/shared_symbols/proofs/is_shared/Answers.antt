use Rattle.shared_symbols.proofs.Sections.{shared-headers, shared-debug}
use Rattle.word.proofs.Test.{found}
use Rattle.shared_symbols.proofs.is_shared.Goals as goal

pub returns-then-share_byte : goal.returns-then-share_byte
returns-then-share_byte c = shared-headers _ c.section_start.ensures (found c.share_byte.ensures c.if-share_byte.true)

pub returns : goal.returns
returns c = shared-debug _ c.section_start.ensures (found c.share_byte.ensures c.if-share_byte.false) c.shares_debug.ensures
