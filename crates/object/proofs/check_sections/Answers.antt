use mathlib.Core.Path.{◌∙◌, sym}
use Rattle.refusal.proofs.Order.{first-turn, first-stop, first-end, told}
use Rattle.object.specs.Check.{section_check, sections_check}
use Rattle.object.proofs.check_sections.Goals as goal
use Rattle.refusal.proofs.Order.{handed}
use mathlib.Core.Path.{refl}

pub returns-in_err-check_section : goal.returns-in_err-check_section
unfolding sections_check
returns-in_err-check_section c = rw (handed c.from_residual.ensures) (let a = c.args in c.in_err-check_section.ensures ∙ sym (c.loop-k.invariant ∙ first-stop (section_check a.len a.y) a.y.count c.loop-k.k c.loop-k-test.true (told c.in_err-check_section.ensures refl refl)))

pub loop-k-preserved : goal.loop-k-preserved
loop-k-preserved c = let a = c.args in c.loop-k.invariant ∙ first-turn (section_check a.len a.y) a.y.count c.loop-k.k c.loop-k-test.true (told c.in_ok-check_section.ensures refl refl)

pub returns : goal.returns
unfolding sections_check
returns c = let a = c.args in sym (c.loop-k.invariant ∙ first-end (section_check a.len a.y) a.y.count c.loop-k.k c.loop-k-test.false)
