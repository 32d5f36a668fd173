use mathlib.Core.Path.{◌∙◌, sym}
use Rattle.frame.proofs.Change.{each_start, each_turn, each-end}
use Rattle.address_put.proofs.put_sections.Goals as goal

pub loop-i-init : goal.loop-i-init
loop-i-init c = λ m p g l h. each_start _ _ _

pub put_section-requires : goal.put_section-requires
put_section-requires c = (c.requires.0, c.loop-i-test.true, c.loop-i.auto.out ∙ c.requires.1)

pub loop-i-preserved : goal.loop-i-preserved
loop-i-preserved c = λ m p g l h. each_turn _ _ _ _ _ c.loop-i-test.true (c.put_section.ensures m p g l h) ∙ c.loop-i.invariant m p g l h

pub returns : goal.returns
returns c = λ m p g l h. sym (each-end _ _ _ _ c.loop-i-test.false) ∙ c.loop-i.invariant m p g l h
