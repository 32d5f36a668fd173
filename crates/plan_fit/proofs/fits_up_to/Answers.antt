use native.Mathlib.Omega.{arith}
use Rattle.plan.proofs.Fit.{fits_by, fits-empty, fits_not}
use Rattle.plan_fit.proofs.fits_up_to.Goals as goal

pub returns-then-last-a : goal.returns-then-last-a
returns-then-last-a c = fits_not _ _ _ (omega (arith, c.if-last-a.true))

pub returns-then-size-eq0 : goal.returns-then-size-eq0
returns-then-size-eq0 c = fits-empty _ _ _ (omega (arith, c.if-last-a.false)) c.if-size-eq0.true

pub returns : goal.returns
returns c = fits_by _ _ _ c.if-last-a.false (omega (arith, c.if-size-eq0.false))
