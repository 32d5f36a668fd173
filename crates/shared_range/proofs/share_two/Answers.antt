use Rattle.std.proofs.Common.{rules}
use mathlib.Core.Path.{sym, ◌∙◌}
use Rattle.shared_range.proofs.Shared.{two-found, two-next, two-end}
use Rattle.shared_range.proofs.share_two.Goals as goal

pub returns-then-shares_one : goal.returns-then-shares_one
returns-then-shares_one c = let l = c.loop-i in let a = c.args in two-found a.rs a.n (search rules) l.i (search rules) (sym c.shares_one.ensures ∙ c.if-shares_one.true) ∙ l.invariant

pub loop-i-preserved : goal.loop-i-preserved
loop-i-preserved c = let l = c.loop-i in let a = c.args in two-next a.rs a.n (search rules) l.i (search rules) (sym c.shares_one.ensures ∙ c.if-shares_one.false) ∙ l.invariant

pub returns : goal.returns
returns c = let l = c.loop-i in let a = c.args in sym (two-end a.rs a.n (search rules) l.i (search rules)) ∙ l.invariant
