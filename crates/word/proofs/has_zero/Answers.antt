use Rattle.std.proofs.Common.{rules}
use mathlib.Core.Path.{◌∙◌, sym}
use Rattle.word.proofs.Zero.{zero-among, zero-among-none}
use Rattle.word.proofs.has_zero.Goals as goal

pub loop-b-preserved : goal.loop-b-preserved
loop-b-preserved c = let s = c.args.block.now in let l = c.loop-b in rw c.is_zero_or-found.ensures (l.invariant ∙ zero-among s l.b-index l.found (search rules))

pub returns : goal.returns
returns c = let s = c.args.block.now in let l = c.loop-b in sym (l.invariant ∙ zero-among-none s l.b-index l.found (search rules))
