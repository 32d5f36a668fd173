use mathlib.Core.Path.{◌∙◌, sym}
use Rattle.rewrite.proofs.Entries.{place-turn, place_end}
use Rattle.rewrite.proofs.place_entries.Goals as goal

pub loop-i-preserved : goal.loop-i-preserved
loop-i-preserved c = λ p q f t h. place-turn _ _ _ _ _ _ _ _ c.loop-i-test.true (c.place_entry.ensures p q f t h) ∙ c.loop-i.invariant p q f t h

pub returns : goal.returns
returns c = λ p q f t h. sym (place_end _ _ _ _ _ _ _ c.loop-i-test.false) ∙ c.loop-i.invariant p q f t h
