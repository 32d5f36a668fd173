use Rattle.std.proofs.Common.{rules}
use mathlib.Core.Path.{◌∙◌, sym}
use Rattle.apply.proofs.Entries.{all_end, all-turn}
use Rattle.apply_all.proofs.apply_entries32.Goals as goal

pub loop-k-preserved : goal.loop-k-preserved
loop-k-preserved c = λ p q f t h. all-turn _ _ _ _ _ _ _ (search rules) (c.apply_entry32.ensures p q f t h) ∙ c.loop-k.invariant p q f t h

pub returns : goal.returns
returns c = λ p q f t h. sym (all_end _ _ _ _ _ _ c.loop-k-test.false) ∙ c.loop-k.invariant p q f t h
