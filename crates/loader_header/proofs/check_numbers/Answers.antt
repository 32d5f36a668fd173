use borrow.Author.Tests.{lt-ltb, le-ltb}
use Rattle.word.proofs.Test.{found}
use Rattle.loader_header.specs.Header.{numbers_check}
use Rattle.loader_header.proofs.check_numbers.Goals as goal

pub returns-then-not-is_version : goal.returns-then-not-is_version
unfolding numbers_check
returns-then-not-is_version c = rw (found c.is_version.ensures c.if-not-is_version.true)

pub returns-then-h-gt-LOADER_SYMBOL_LIMIT : goal.returns-then-h-gt-LOADER_SYMBOL_LIMIT
unfolding numbers_check
returns-then-h-gt-LOADER_SYMBOL_LIMIT c = rw (found c.is_version.ensures c.if-not-is_version.false, lt-ltb _ _ c.if-h-gt-LOADER_SYMBOL_LIMIT.true)

pub returns-then-h-gt-RELOCATION_LIMIT : goal.returns-then-h-gt-RELOCATION_LIMIT
unfolding numbers_check
returns-then-h-gt-RELOCATION_LIMIT c = rw (found c.is_version.ensures c.if-not-is_version.false, le-ltb _ _ c.if-h-gt-LOADER_SYMBOL_LIMIT.false, lt-ltb _ _ c.if-h-gt-RELOCATION_LIMIT.true)

pub returns : goal.returns
unfolding numbers_check
returns c = rw (found c.is_version.ensures c.if-not-is_version.false, le-ltb _ _ c.if-h-gt-LOADER_SYMBOL_LIMIT.false, le-ltb _ _ c.if-h-gt-RELOCATION_LIMIT.false)
