use Rattle.symbol.proofs.Checks.{symbol-none, symbol-judged}
use Rattle.symbol.proofs.symbol_in.Goals as goal
use Rattle.refusal.proofs.Order.{handed}

pub returns-then-t-i : goal.returns-then-t-i
returns-then-t-i c = symbol-none _ _ _ c.if-t-i.true

pub returns-in_err-check_entry : goal.returns-in_err-check_entry
returns-in_err-check_entry c = rw (handed c.from_residual.ensures) (let a = c.args in (symbol-judged a.file.now a.t a.i c.if-t-i.false c.entry_in-e.ensures c.in_err-check_entry.ensures))

pub returns : goal.returns
returns c = let a = c.args in rw c.symbol_of.ensures ((symbol-judged a.file.now a.t a.i c.if-t-i.false c.entry_in-e.ensures c.in_ok-check_entry.ensures))
