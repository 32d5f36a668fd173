use native.Mathlib.Omega.{arith}
use Rattle.module.proofs.Extent.{bss-after, image-plain, image-bss}
use Rattle.module.proofs.image_length.Goals as goal

pub returns-then-bss-eq0 : goal.returns-then-bss-eq0
returns-then-bss-eq0 c = rw (image-plain c.args.p c.if-bss-eq0.true)

pub overflow_sub-result : goal.overflow_sub-result
overflow_sub-result c = let h = bss-after c.args.p c.requires.0 c.if-bss-eq0.false in omega arith

pub overflow_add-result : goal.overflow_add-result
overflow_add-result c = let l = c.requires.1 in let h = rw (image-bss c.args.p c.if-bss-eq0.false) at l in omega arith

pub returns : goal.returns
returns c = rw (image-bss c.args.p c.if-bss-eq0.false)
