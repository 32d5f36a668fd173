use Prim.Native.Nat.{◌+◌, ◌-◌, ◌*◌, ◌/◌}
use lib.ListN.{length}
use Rattle.record.proofs.Images.{length-next, length-done, image-whole, image-last, image-end, image-length}
use mathlib.Core.Path.{◌≡◌, ◌∙◌, sym}
use native.Mathlib.Omega.{arith}
use Rattle.record_text.proofs.put_image.Goals as goal

pub put_whole-requires : goal.put_whole-requires
put_whole-requires c =
    let a = c.args in
    let l = c.loop-line in
    (omega (arith, l.invariant.0, c.requires.0, length-next a.address (length a.image.now) (32 * l.line) (omega arith)), omega arith)

pub loop-line-preserved : goal.loop-line-preserved
loop-line-preserved c =
    let a = c.args in
    let l = c.loop-line in
    let e : 32 * (l.line + 1) ≡ 32 * l.line + 32 = omega arith in
    rw e (
      omega (arith, l.invariant.0, length-next a.address (length a.image.now) (32 * l.line) (omega arith)),
      image-whole l.out _ a.image.now l.p a.address (32 * l.line) (omega arith) c.put_whole.ensures ∙ l.invariant.1,
    )

pub returns-then-i-image-clause-next : goal.returns-then-i-image-clause-next
returns-then-i-image-clause-next c = let a = c.args in let l = c.loop-line in omega (arith, l.invariant.0, length-done (a.address + 32 * l.line) (length a.image.now - 32 * l.line) (omega arith))

pub returns-then-i-image-clause-text : goal.returns-then-i-image-clause-text
returns-then-i-image-clause-text c = let a = c.args in let l = c.loop-line in sym (image-end l.out a.image.now l.p a.address (32 * l.line) (omega arith)) ∙ l.invariant.1

pub put_line-requires : goal.put_line-requires
put_line-requires c = let a = c.args in let l = c.loop-line in (omega (arith, l.invariant.0, c.requires.0, image-length (a.address + 32 * l.line) (length a.image.now - 32 * l.line)), omega arith, omega arith)

pub returns-clause-next : goal.returns-clause-next
returns-clause-next c = let a = c.args in let l = c.loop-line in omega (arith, l.invariant.0, image-length (a.address + 32 * l.line) (length a.image.now - 32 * l.line))

pub returns-clause-text : goal.returns-clause-text
returns-clause-text c =
    let a = c.args in
    let l = c.loop-line in
    let n = length a.image.now in
    let e : l.line ≡ n / 32 = omega arith in
    image-last l.out _ a.image.now l.p a.address (32 * (n / 32)) (omega arith) (omega arith) c.put_line.ensures ∙ rw e at l.invariant.1
