use Prim.Native.Nat.{◌-◌}
use mathlib.Core.Path.{sym}
use native.Mathlib.Omega.{arith}
use Rattle.word.proofs.Test.{past-yes, past-no, past_by}
use Rattle.word.proofs.ends_past_last.Goals as goal

pub returns-then-from-eq0 : goal.returns-then-from-eq0
returns-then-from-eq0 c = sym (past-no _ _ _ (omega arith))

pub returns-then-size-eq0 : goal.returns-then-size-eq0
returns-then-size-eq0 c = let a = c.args in past_by a.last (a.from - 1) _ _ _ (λ h. omega arith) (λ h. omega arith)

pub returns-then-last-from : goal.returns-then-last-from
returns-then-last-from c = sym (past-yes _ _ _ (omega arith))

pub returns : goal.returns
returns c = let a = c.args in past_by (a.last - a.from) (a.size - 1) _ _ _ (λ h. omega arith) (λ h. omega arith)
