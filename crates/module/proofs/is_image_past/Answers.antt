use native.Mathlib.Omega.{arith}
use Rattle.word.specs.Test.{past}
use Rattle.module.proofs.Extent.{bss-after, image-plain, image-bss}
use Rattle.module.proofs.is_image_past.Goals as goal

pub returns-then-bss-eq0 : goal.returns-then-bss-eq0
returns-then-bss-eq0 c = rw (image-plain c.args.p c.if-bss-eq0.true)

pub overflow_sub-high : goal.overflow_sub-high
overflow_sub-high c = let h = bss-after c.args.p c.requires c.if-bss-eq0.false in omega arith

pub returns : goal.returns
unfolding past
returns c = rw (image-bss c.args.p c.if-bss-eq0.false) c.ends_past.ensures
