use native.Mathlib.Nat.{add-sub_cancel_left}
use mathlib.Core.Path.{◌∙◌}
use native.Mathlib.Omega.{arith}
use Rattle.word.proofs.Test.{found, past-not}
use Rattle.loader_symbol.proofs.Strings.{string-low, string-far, string-empty, string-past, string-closed, string-open}
use Rattle.loader_symbol.proofs.string_range.Goals as goal

pub returns-then-o-lt2 : goal.returns-then-o-lt2
returns-then-o-lt2 c = string-low _ _ _ _ c.if-o-lt2.true

pub returns-then-strings-o : goal.returns-then-strings-o
returns-then-strings-o c = string-far c.args.file.now c.args.strings c.args.o c.args.i c.if-o-lt2.false c.if-strings-o.true

pub returns-then-n-eq0 : goal.returns-then-n-eq0
returns-then-n-eq0 c = string-empty c.args.file.now c.args.strings c.args.o c.args.i c.if-o-lt2.false c.if-strings-o.false c.get16-n.ensures c.if-n-eq0.true

pub returns-then-ends_past : goal.returns-then-ends_past
returns-then-ends_past c = string-past c.args.file.now c.args.strings c.args.o c.args.i c.if-o-lt2.false c.if-strings-o.false c.get16-n.ensures c.if-n-eq0.false (found c.ends_past.ensures c.if-ends_past.true)

pub slice_bounds-first_zero-end : goal.slice_bounds-first_zero-end
slice_bounds-first_zero-end c = let h = past-not c.args.o c.get16-n.result c.args.strings.length (found c.ends_past.ensures c.if-ends_past.false) in omega arith

pub returns-then-zero-n : goal.returns-then-zero-n
returns-then-zero-n c = string-closed c.args.file.now c.args.strings c.args.o c.args.i c.if-o-lt2.false c.if-strings-o.false c.get16-n.ensures c.if-n-eq0.false (found c.ends_past.ensures c.if-ends_past.false) (found (simp add-sub_cancel_left at c.first_zero-zero.ensures) c.if-zero-n.true)

pub returns : goal.returns
returns c = string-open c.args.file.now c.args.strings c.args.o c.args.i c.if-o-lt2.false c.if-strings-o.false c.get16-n.ensures c.if-n-eq0.false (found c.ends_past.ensures c.if-ends_past.false) (λ q. c.if-zero-n.false ((simp add-sub_cancel_left at c.first_zero-zero.ensures) ∙ q))
