use Rattle.std.proofs.Common.{rules}
use Rattle.std.proofs.lemmas.List.Edits.{get_or-between}
use native.Mathlib.Nat.{add-zero, sub-zero}
use Prim.Native.Nat.{◌+◌, ◌*◌}
use Rattle.record.proofs.Stores.{data-next, data-end}
use mathlib.Core.Path.{◌∙◌, sym, refl}
use native.Mathlib.Omega.{arith}
use Rattle.record_line.proofs.put_run.Goals as goal

pub loop-i-init : goal.loop-i-init
loop-i-init c = let a = c.args in rw (add-zero a.at, sub-zero a.n, add-zero a.from) refl

pub loop-i-preserved : goal.loop-i-preserved
loop-i-preserved c =
    let a = c.args in
    let l = c.loop-i in
    let b = get_or-between a.image.now a.from (a.from + a.n) l.i 0 (omega arith) in
    data-next l.out _ a.image.now a.at a.from a.n l.i (search rules) c.requires.1 (rw b at c.put_hex.ensures) ∙ l.invariant

pub returns : goal.returns
returns c = let a = c.args in let l = c.loop-i in sym (data-end l.out a.image.now (a.at + 2 * l.i) a.from a.n l.i (search rules)) ∙ l.invariant
