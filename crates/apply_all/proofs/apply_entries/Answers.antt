use mathlib.Core.Path.{◌∙◌, sym}
use Rattle.apply.proofs.Entries.{all_end, all-turn}
use Rattle.apply_all.proofs.apply_entries.Goals as goal

pub loop-i-preserved : goal.loop-i-preserved
loop-i-preserved c = λ p q f t h. all-turn _ _ _ _ _ _ _ c.loop-i-test.true (c.apply_entry.ensures p q f t h) ∙ c.loop-i.invariant p q f t h

pub returns : goal.returns
returns c = λ p q f t h. sym (all_end _ _ _ _ _ _ c.loop-i-test.false) ∙ c.loop-i.invariant p q f t h
