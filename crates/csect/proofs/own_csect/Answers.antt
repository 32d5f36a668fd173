use Prim.Native.Nat.{◌+◌, ◌≤◌}
use mathlib.Core.Path.{◌∙◌, ap, sym}
use native.Mathlib.Omega.{arith}
use Rattle.csect.specs.Csect.{own_after, own_csect}
use Rattle.symbol.proofs.Checks.{symbol-in-table}
use Rattle.symbol.proofs.Opened.{tables-inside, entry_whole}
use Rattle.word.proofs.Test.{found}
use Rattle.csect.proofs.own_csect.Goals as goal

pub returns-in_default : goal.returns-in_default
unfolding own_after
returns-in_default c = let a = c.args in ap (own_after a.file.now a.t a.i) (sym c.in-Err.is ∙ sym c.in_default.is ∙ c.symbol_in-answer.ensures)

pub overflow_add-base : goal.overflow_add-base
overflow_add-base c = let k = (let fact : c.args.i.0 + 1 + c.in-Ok.s.numaux ≤ c.args.t.count = symbol-in-table c.args.file.now c.args.t c.args.i (found c.symbol_in-answer.ensures c.in-Ok.is) in fact) in let h = tables-inside c.args.file.now c.args.t c.requires in omega arith

pub overflow_mul-base : goal.overflow_mul-base
overflow_mul-base c = let k = (let fact : c.args.i.0 + 1 + c.in-Ok.s.numaux ≤ c.args.t.count = symbol-in-table c.args.file.now c.args.t c.args.i (found c.symbol_in-answer.ensures c.in-Ok.is) in fact) in let h = tables-inside c.args.file.now c.args.t c.requires in omega arith

pub overflow_add-base-2 : goal.overflow_add-base-2
overflow_add-base-2 c = let k = (let fact : c.args.i.0 + 1 + c.in-Ok.s.numaux ≤ c.args.t.count = symbol-in-table c.args.file.now c.args.t c.args.i (found c.symbol_in-answer.ensures c.in-Ok.is) in fact) in let h = tables-inside c.args.file.now c.args.t c.requires in omega arith

pub read_aux-a-requires : goal.read_aux-a-requires
read_aux-a-requires c = let k = (let fact : c.args.i.0 + 1 + c.in-Ok.s.numaux ≤ c.args.t.count = symbol-in-table c.args.file.now c.args.t c.args.i (found c.symbol_in-answer.ensures c.in-Ok.is) in fact) in entry_whole _ c.args.t _ c.requires (omega arith)

pub returns : goal.returns
unfolding own_after own_csect
returns c = rw (found c.symbol_in-answer.ensures c.in-Ok.is, ← c.read_aux-a.ensures) c.judge_csect.ensures
