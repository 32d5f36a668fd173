use Prim.Native.Nat.{◌*◌}
use lib.ListN.{length}
use borrow.Author.Tests.{eq-eqb, ne_eqb}
use native.Mathlib.Omega.{arith}
use Rattle.word.proofs.Test.{found, past-not}
use Rattle.file_tables.specs.Tables.{symbols_check, symbols_end}
use Rattle.file_tables.proofs.check_symbols.Goals as goal

pub returns-then-h-eq0 : goal.returns-then-h-eq0
unfolding symbols_check
returns-then-h-eq0 c = rw (eq-eqb _ _ c.if-h-eq0.true)

pub returns-then-ends_past : goal.returns-then-ends_past
unfolding symbols_check
returns-then-ends_past c = rw (ne_eqb _ _ c.if-h-eq0.false, found c.ends_past.ensures c.if-ends_past.true)

pub overflow_add-p : goal.overflow_add-p
overflow_add-p c = let a = c.args in let h = past-not a.h.symptr.0 (a.h.nsyms * 18) (length a.file.now) (found c.ends_past.ensures c.if-ends_past.false) in omega arith

pub check_strings-requires : goal.check_strings-requires
check_strings-requires c = let a = c.args in let h = past-not a.h.symptr.0 (a.h.nsyms * 18) (length a.file.now) (found c.ends_past.ensures c.if-ends_past.false) in omega arith

pub returns : goal.returns
unfolding symbols_check symbols_end
returns c = rw (ne_eqb _ _ c.if-h-eq0.false, found c.ends_past.ensures c.if-ends_past.false) c.check_strings.ensures
