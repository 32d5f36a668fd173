use mathlib.Core.Path.{◌∙◌, sym}
use Rattle.refusal.proofs.Order.{first-turn, first-stop, first-end, told}
use Rattle.loader_symbol.specs.Symbol.{symbol_check}
use Rattle.loader.proofs.check_symbols.Goals as goal
use Rattle.refusal.proofs.Order.{handed}
use mathlib.Core.Path.{refl}

pub returns-in_err-check_symbol : goal.returns-in_err-check_symbol
returns-in_err-check_symbol c = rw (handed c.from_residual.ensures) (let a = c.args in c.in_err-check_symbol.ensures ∙ sym (c.loop-k.invariant ∙ first-stop (symbol_check a.file.now a.f a.p a.t) a.t.nsyms c.loop-k.k c.loop-k-test.true (told c.in_err-check_symbol.ensures refl refl)))

pub loop-k-preserved : goal.loop-k-preserved
loop-k-preserved c = let a = c.args in c.loop-k.invariant ∙ first-turn (symbol_check a.file.now a.f a.p a.t) a.t.nsyms c.loop-k.k c.loop-k-test.true (told c.in_ok-check_symbol.ensures refl refl)

pub returns : goal.returns
returns c = let a = c.args in sym (c.loop-k.invariant ∙ first-end (symbol_check a.file.now a.f a.p a.t) a.t.nsyms c.loop-k.k c.loop-k-test.false)
