use mathlib.Core.Path.{sym}
use native.Mathlib.Omega.{arith}
use borrow.Author.Tests.{lt-ltb}
use Rattle.word.proofs.Test.{found}
use Rattle.loader_symbol.specs.Symbol.{symbol_check, entry_check}
use Rattle.loader_symbol.proofs.Checks.{type-above, not-placed}
use Rattle.loader_symbol_check.proofs.check_symbol.Goals as goal

pub returns-then-e-ge4 : goal.returns-then-e-ge4
unfolding symbol_check
returns-then-e-ge4 c = let h = rw c.read_entry-e.ensures at c.if-e-ge4.true in sym (type-above _ _ _ _ _ _ (omega (arith, h)))

pub returns-then-not-is_placed : goal.returns-then-not-is_placed
unfolding symbol_check
returns-then-not-is_placed c = let h = found (rw c.read_entry-e.ensures at c.is_placed.ensures) c.if-not-is_placed.true in sym (not-placed _ _ _ _ _ _ h)

pub returns-then-is_found : goal.returns-then-is_found
unfolding symbol_check entry_check
returns-then-is_found c = rw (lt-ltb _ 4 (rw c.read_entry-e.ensures at c.if-e-ge4.false), found (rw c.read_entry-e.ensures at c.is_placed.ensures) c.if-not-is_placed.false, found (rw (c.name_range-a.ensures, c.read_entry-e.ensures) at c.is_found.ensures) c.if-is_found.true)

pub returns : goal.returns
unfolding symbol_check entry_check
returns c = rw (lt-ltb _ 4 (rw c.read_entry-e.ensures at c.if-e-ge4.false), found (rw c.read_entry-e.ensures at c.is_placed.ensures) c.if-not-is_placed.false, found (rw (c.name_range-a.ensures, c.read_entry-e.ensures) at c.is_found.ensures) c.if-is_found.false)
