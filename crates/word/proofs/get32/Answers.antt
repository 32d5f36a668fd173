use mathlib.Core.Path.{◌∙◌, sym}
use Rattle.word.proofs.Number.{field-four, swapped}
use Rattle.word.proofs.get32.Goals as goal

pub returns : goal.returns
returns c = let a = c.args in swapped _ _ _ _ _ _ c.load32.ensures.value c.load32.ensures.bytes c.swap32.ensures ∙ sym (field-four a.off a.s.now c.requires)
