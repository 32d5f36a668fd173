use Rattle.std.proofs.Common.{rules}
use Prim.Native.Nat.{◌*◌, ◌+◌}
use mathlib.Core.Path.{◌∙◌, sym}
use Rattle.sheet.proofs.Addresses.{write-end, write-next}
use Rattle.plan_sheet.proofs.write_list.Goals as goal

pub loop-i-preserved : goal.loop-i-preserved
loop-i-preserved c = let a = c.args in rw c.put64.ensures (write-next c.loop-i.sheet a.list.now a.start c.loop-i.i (search rules) ∙ c.loop-i.invariant)

pub returns : goal.returns
returns c = let a = c.args in sym (write-end c.loop-i.sheet a.list.now (a.start + c.loop-i.i * 8) c.loop-i.i (search rules)) ∙ c.loop-i.invariant
