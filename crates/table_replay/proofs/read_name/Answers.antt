use Prim.Native.Nat.{◌+◌, ◌-◌}
use native.Mathlib.Omega.{arith}
use mathlib.Core.Path.{◌≡◌, ◌∙◌, sym}
use Rattle.table_replay.proofs.Names.{store-next, store-end}
use Rattle.table_replay.proofs.read_name.Goals as goal

pub loop-i-preserved : goal.loop-i-preserved
loop-i-preserved c =
    let a = c.args in
    let e : a.from + a.n - a.from ≡ a.n = omega arith in
    rw e (store-next a.s.now a.from a.n c.requires.1 c.loop-i.name c.loop-i.i (omega arith) ∙ c.loop-i.invariant)

pub returns : goal.returns
returns c = let a = c.args in sym (store-end a.s.now a.from a.n c.requires.1 c.loop-i.name c.loop-i.i (omega arith)) ∙ c.loop-i.invariant
