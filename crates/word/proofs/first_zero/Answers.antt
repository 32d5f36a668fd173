use Rattle.std.proofs.Common.{rules}
use lib.Seq.{length-take-le}
use mathlib.Core.Path.{sym}
use Rattle.word.proofs.first_zero.Goals as goal

pub slice_bounds-has_zero-end : goal.slice_bounds-has_zero-end
slice_bounds-has_zero-end c = sym (length-take-le 16 c.args.s.now (search rules))
