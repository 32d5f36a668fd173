use native.Mathlib.Omega.{arith}
use Rattle.lookup.proofs.Symbols.{index-known}
use Rattle.lookup.proofs.entry_base.Goals as goal

pub overflow_sub-result : goal.overflow_sub-result
overflow_sub-result c = (index-known c.args.t c.args.i c.requires.1).0

pub overflow_mul-result : goal.overflow_mul-result
overflow_mul-result c = let k = index-known c.args.t c.args.i c.requires.1 in let p = c.requires.0 in omega arith

pub overflow_add-result : goal.overflow_add-result
overflow_add-result c = let k = index-known c.args.t c.args.i c.requires.1 in let p = c.requires.0 in omega arith
