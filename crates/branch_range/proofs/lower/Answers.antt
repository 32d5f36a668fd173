use Rattle.section_overlap.proofs.Rule.{no_false}
use mathlib.Core.Path.{◌∙◌, sym}
use native.Mathlib.Omega.{arith}
use Rattle.branch_range.proofs.lower.Goals as goal

pub returns-then-not-is_branch : goal.returns-then-not-is_branch
returns-then-not-is_branch c = record { low = c.requires; high = omega arith; none = λ b. no_false (sym b ∙ sym c.is_branch.ensures ∙ c.if-not-is_branch.true) }
