use borrow.Author.Tests.{eq-eqb, ne_eqb}
use native.Mathlib.Omega.{arith}
use Rattle.file_tables.proofs.Symbols.{symbols-inside, strings-readable}
use Rattle.file_tables.specs.Tables.{symbol_table, symbols_end}
use Rattle.file_tables.proofs.find_symbols.Goals as goal

pub returns-then-h-eq0 : goal.returns-then-h-eq0
unfolding symbol_table
returns-then-h-eq0 c = rw (eq-eqb _ _ c.if-h-eq0.true)

pub overflow_add-end : goal.overflow_add-end
overflow_add-end c = let h = symbols-inside c.args.file.now c.args.h c.requires.0 c.if-h-eq0.false in omega arith

pub strings_length-requires : goal.strings_length-requires
unfolding symbols_end
strings_length-requires c = strings-readable c.args.file.now c.args.h c.requires.0 c.if-h-eq0.false

pub returns : goal.returns
unfolding symbol_table symbols_end
returns c = rw (ne_eqb _ _ c.if-h-eq0.false, c.strings_length.ensures)
