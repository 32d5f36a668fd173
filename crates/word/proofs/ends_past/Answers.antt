use Prim.Native.Nat.{◌-◌}
use mathlib.Core.Path.{sym}
use native.Mathlib.Omega.{arith}
use Rattle.word.proofs.Test.{past-yes, past_by}
use Rattle.word.proofs.ends_past.Goals as goal

pub returns-then-end-from : goal.returns-then-end-from
returns-then-end-from c = sym (past-yes _ _ _ (omega arith))

pub returns : goal.returns
returns c = let a = c.args in past_by (a.end - a.from) a.size _ _ _ (λ h. omega arith) (λ h. omega arith)
