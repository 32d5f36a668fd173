use mathlib.Core.Path.{sym}
use native.Mathlib.Omega.{arith}
use Rattle.loader_header.proofs.Places.{table-in, place-empty, place-full}
use Rattle.loader_header.proofs.place_of.Goals as goal

pub returns-then-len-eq0 : goal.returns-then-len-eq0
returns-then-len-eq0 c = sym (place-empty _ _ _ c.if-len-eq0.true)

pub overflow_add-result : goal.overflow_add-result
overflow_add-result c = let h = table-in c.args.off c.args.len c.args.size c.requires.0 c.if-len-eq0.false in omega arith

pub returns : goal.returns
returns c = sym (place-full _ _ _ c.if-len-eq0.false)
