use borrow.Author.Tests.{lt-ltb, le-ltb}
use native.Mathlib.Omega.{arith}
use Rattle.refusal.proofs.Order.{test-passed, test-refused}
use Rattle.file_header.specs.Header.{header_check}
use Rattle.file_header.proofs.check_header.Goals as goal

pub returns-then-len-l : goal.returns-then-len-l
unfolding header_check
returns-then-len-l c = test-refused _ _ (lt-ltb _ _ (rw c.header_layout-l.ensures at c.if-len-l.true))

pub read_header-h-requires : goal.read_header-h-requires
read_header-h-requires c = rw c.header_layout-l.ensures at c.if-len-l.false

pub returns-then-h-gt-SECTION_LIMIT : goal.returns-then-h-gt-SECTION_LIMIT
unfolding header_check
returns-then-h-gt-SECTION_LIMIT c = test-passed _ _ (le-ltb _ _ (rw c.header_layout-l.ensures at c.if-len-l.false)) (test-refused _ _ (lt-ltb _ _ (rw c.read_header-h.ensures.value at c.if-h-gt-SECTION_LIMIT.true)))

pub section_start-requires : goal.section_start-requires
section_start-requires c = let b = c.read_header-h.ensures.bound in (omega arith, c.if-h-gt-SECTION_LIMIT.false)

pub returns-then-len-section_start : goal.returns-then-len-section_start
unfolding header_check
returns-then-len-section_start c = test-passed _ _ (le-ltb _ _ (rw c.header_layout-l.ensures at c.if-len-l.false)) (test-passed _ _ (le-ltb _ _ (rw c.read_header-h.ensures.value at c.if-h-gt-SECTION_LIMIT.false)) (rw (lt-ltb _ _ (rw (c.section_start.ensures, c.read_header-h.ensures.value) at c.if-len-section_start.true))))

pub returns : goal.returns
unfolding header_check
returns c = test-passed _ _ (le-ltb _ _ (rw c.header_layout-l.ensures at c.if-len-l.false)) (test-passed _ _ (le-ltb _ _ (rw c.read_header-h.ensures.value at c.if-h-gt-SECTION_LIMIT.false)) (rw (le-ltb _ _ (rw (c.section_start.ensures, c.read_header-h.ensures.value) at c.if-len-section_start.false))))
