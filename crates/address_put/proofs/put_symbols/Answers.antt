use mathlib.Core.Path.{◌∙◌, sym}
use Rattle.frame.proofs.Change.{each_start, each_turn, each-end}
use Rattle.address_put.proofs.put_symbols.Goals as goal

pub loop-k-init : goal.loop-k-init
loop-k-init c = λ m p g l h. each_start _ _ _

pub put_symbol-requires-clause-valid : goal.put_symbol-requires-clause-valid
put_symbol-requires-clause-valid c = (c.requires.valid, c.loop-k-test.true)

pub put_symbol-requires-clause-imports_len : goal.put_symbol-requires-clause-imports_len
put_symbol-requires-clause-imports_len c = (c.requires.imports_len.0, c.loop-k.auto.out ∙ c.requires.imports_len.1)

pub loop-k-preserved : goal.loop-k-preserved
loop-k-preserved c = λ m p g l h. each_turn _ _ _ _ _ c.loop-k-test.true (c.put_symbol.ensures m p g l h) ∙ c.loop-k.invariant m p g l h

pub returns : goal.returns
returns c = λ m p g l h. sym (each-end _ _ _ _ c.loop-k-test.false) ∙ c.loop-k.invariant m p g l h
