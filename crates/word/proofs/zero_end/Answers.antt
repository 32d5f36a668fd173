use Rattle.std.proofs.Common.{rules}
use Prim.Native.Nat.{◌-◌}
use lib.Seq.{take-length, length-take-le}
use mathlib.Core.Path.{◌∙◌, sym}
use Rattle.word.proofs.Zero.{zero-end-block, no_zero}
use Rattle.word.proofs.zero_end.Goals as goal

pub loop-end-init : goal.loop-end-init
loop-end-init c = (search rules, rw (take-length c.args.s.now))

pub slice_bounds-scan_last-end : goal.slice_bounds-scan_last-end
slice_bounds-scan_last-end c = sym (length-take-le c.loop-end.end c.args.s.now (search rules))

pub returns-then-has_zero : goal.returns-then-has_zero
returns-then-has_zero c = c.scan_last.ensures ∙ c.loop-end.invariant.1

pub loop-end-preserved : goal.loop-end-preserved
loop-end-preserved c = let s = c.args.s.now in let l = c.loop-end in (search rules, sym (zero-end-block s (l.end - 64) l.end (search rules) (no_zero _ (sym c.has_zero.ensures ∙ c.if-has_zero.false))) ∙ l.invariant.1)

pub slice_bounds-scan_last-end-2 : goal.slice_bounds-scan_last-end-2
slice_bounds-scan_last-end-2 c = sym (length-take-le c.loop-end.end c.args.s.now (search rules))

pub returns : goal.returns
returns c = c.scan_last-2.ensures ∙ c.loop-end.invariant.1
