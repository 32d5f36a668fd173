use native.Mathlib.Omega.{arith}
use Rattle.object_shifts.proofs.Fit.{fits_by, fits-empty, fits_not}
use Rattle.object_shifts.proofs.fits_up_to.Goals as goal

pub returns-then-last-a : goal.returns-then-last-a
returns-then-last-a c = let a = c.args in fits_not a.last a.a a.size (omega (arith, c.if-last-a.true))

pub returns-then-size-eq0 : goal.returns-then-size-eq0
returns-then-size-eq0 c = let a = c.args in fits-empty a.last a.a a.size (omega (arith, c.if-last-a.false)) c.if-size-eq0.true

pub returns : goal.returns
returns c = let a = c.args in fits_by a.last a.a a.size (omega (arith, c.if-last-a.false)) (omega (arith, c.if-size-eq0.false))
