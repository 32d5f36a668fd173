use Rattle.std.proofs.Common.{rules}
use Prim.Native.Nat.{◌*◌, ◌+◌}
use lib.ListN.{length}
use mathlib.Core.Path.{◌∙◌, sym}
use Rattle.sheet.proofs.Addresses.{fill_end, fill-next, length-numbers}
use Rattle.update.proofs.Stores.{sets-whole}
use Rattle.plan_sheet.proofs.fill_list.Goals as goal

pub loop-i-preserved : goal.loop-i-preserved
loop-i-preserved c = let a = c.args in fill-next a.sheet.now c.loop-i.list a.start c.loop-i.i (length a.list.now) _ (search rules) c.get64.ensures ∙ c.loop-i.invariant

pub returns : goal.returns
returns c = let a = c.args in sym (fill_end a.sheet.now c.loop-i.list (a.start + c.loop-i.i * 8) c.loop-i.i (length a.list.now) (search rules)) ∙ c.loop-i.invariant ∙ sets-whole a.list.now _ (length-numbers a.sheet.now a.start (length a.list.now))
