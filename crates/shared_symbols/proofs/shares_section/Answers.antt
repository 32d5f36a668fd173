use Rattle.shared_symbols.proofs.Sections.{other-kind, no-raw, raw-shared, raw-apart}
use borrow.Author.Tests.{not-true, not-false}
use Rattle.word.proofs.Test.{found}
use Rattle.shared_symbols.proofs.shares_section.Goals as goal

pub returns-then-flags-ne-DEBUG : goal.returns-then-flags-ne-DEBUG
returns-then-flags-ne-DEBUG c = other-kind _ _ _ c.flags.ensures c.if-flags-ne-DEBUG.true

pub returns-then-not-s : goal.returns-then-not-s
returns-then-not-s c = no-raw _ _ _ c.flags.ensures c.if-flags-ne-DEBUG.false (not-true _ c.if-not-s.true)

pub returns-then-share_byte : goal.returns-then-share_byte
returns-then-share_byte c = raw-shared _ _ _ c.flags.ensures c.if-flags-ne-DEBUG.false (not-false _ c.if-not-s.false) (found c.share_byte.ensures c.if-share_byte.true)

pub returns : goal.returns
returns c = raw-apart _ _ _ c.flags.ensures c.if-flags-ne-DEBUG.false (not-false _ c.if-not-s.false) (found c.share_byte.ensures c.if-share_byte.false)
