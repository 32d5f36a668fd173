use mathlib.Core.Path.{refl, ◌∙◌}
use native.Mathlib.Omega.{arith}
use Rattle.field_kind.proofs.Word.{put-branch}
use Rattle.field_kind.proofs.add_branch.Goals as goal

pub returns : goal.returns
returns c = let a = c.args in let v = c.get32-v.result in c.put32.ensures ∙ put-branch a.off a.d _ v a.s.now c.get32-v.ensures (omega arith) refl
