use Prim.Native.Nat.{◌+◌, ◌*◌}
use lib.ListN.{length}
use Rattle.record.specs.Record.{read_from, image_slots}
use Rattle.update.proofs.Stores.{sets-whole}
use Rattle.record.proofs.Reading.{read_next, read-end, length-image}
use mathlib.Core.Path.{◌≡◌, ◌∙◌, sym}
use native.Mathlib.Omega.{arith}
use Rattle.record_text.proofs.fill_image.Goals as goal

pub loop-line-preserved : goal.loop-line-preserved
loop-line-preserved c =
    let a = c.args in
    let l = c.loop-line in
    let n = length a.dst.now in
    let e = rw l.auto.dst at c.next_count-n.ensures in
    let next : 32 * (l.line + 1) ≡ 32 * l.line + 32 = omega arith in
    rw next (omega (arith, e, l.invariant.0), λ x. rw e (read_next a.t.now l.dst _ l.p x n (32 * l.line) (omega arith) (rw e at c.fill_data.ensures)) ∙ l.invariant.1 x)

pub returns : goal.returns
returns c =
    λ x. let a = c.args in
    let l = c.loop-line in
    let n = length a.dst.now in
    sym (read-end a.t.now l.dst l.p (32 * l.line) x n (32 * l.line) (omega arith)) ∙ l.invariant.1 x ∙ sets-whole a.dst.now (read_from a.at (image_slots x n) a.t.now) (length-image a.at x n a.t.now)
