use mathlib.Core.Path.{refl}
use native.Mathlib.Omega.{arith}
use Rattle.file_tables.proofs.Symbols.{strings-none, strings-cut, strings-zero, strings-short, strings-past, strings-whole}
use Rattle.file_tables.proofs.check_strings.Goals as goal

pub returns-then-left-eq0 : goal.returns-then-left-eq0
returns-then-left-eq0 c = let a = c.args in strings-none a.file.now a.end _ refl (omega arith)

pub returns-then-left-lt4 : goal.returns-then-left-lt4
returns-then-left-lt4 c = let a = c.args in strings-cut a.file.now a.end _ refl (omega arith) (omega arith)

pub returns-then-size-eq0 : goal.returns-then-size-eq0
returns-then-size-eq0 c = let a = c.args in strings-zero a.file.now a.end _ c.get32-size.ensures (omega arith) c.if-size-eq0.true

pub returns-then-size-lt4 : goal.returns-then-size-lt4
returns-then-size-lt4 c = let a = c.args in strings-short a.file.now a.end _ c.get32-size.ensures (omega arith) (omega arith) c.if-size-lt4.true

pub returns-then-left-size : goal.returns-then-left-size
returns-then-left-size c = let a = c.args in strings-past a.file.now a.end _ c.get32-size.ensures (omega arith) c.if-size-lt4.false (omega arith)

pub returns : goal.returns
returns c = let a = c.args in strings-whole a.file.now a.end _ c.get32-size.ensures (omega arith) c.if-size-lt4.false (omega arith)
