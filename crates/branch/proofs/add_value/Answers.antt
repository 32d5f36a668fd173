use Rattle.std.proofs.Common.{ℤ, pos, ◌+ℤ◌, refl, ap, ◌∙◌}
use Rattle.branch.specs.Branch.{wide, sum_of}
use Rattle.branch.proofs.Computed.{value-added, value_taken}
use Rattle.branch.proofs.add_value.Goals as goal

pub returns-then-n-lt33554432 : goal.returns-then-n-lt33554432
returns-then-n-lt33554432 c = let a = c.args in c.plus.ensures ∙ ap (λ (z : ℤ). wide (pos (sum_of a.s) +ℤ z)) (value-added a.v _ refl c.if-n-lt33554432.true)

pub returns : goal.returns
returns c = let a = c.args in c.minus.ensures ∙ ap (λ (z : ℤ). wide (pos (sum_of a.s) +ℤ z)) (value_taken a.v _ refl c.if-n-lt33554432.false)
